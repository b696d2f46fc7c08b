use Rattle.std.proofs.Common.{◌≡◌}
use Rattle.heap_dump.proofs.Copied.{mixed}
use Rattle.heap_dump.proofs.dump.copy_roots.Given as goal

abbrev pub invariant-loop-mutator : goal.invariant-loop-mutator
invariant-loop-mutator loop = loop.text ≡ record loop.initial.text { roots = mixed loop.mutator loop.graph.roots loop.initial.text.roots }
