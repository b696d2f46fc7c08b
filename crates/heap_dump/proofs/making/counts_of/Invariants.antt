use Rattle.std.proofs.Common.{◌≡◌}
use Rattle.heap_dump.specs.ObjectsMade.{objects_made_by_each}
use Rattle.heap_dump.proofs.making.counts_of.Given as goal

abbrev pub invariant-loop-mutator : goal.invariant-loop-mutator
invariant-loop-mutator loop = loop.counts ≡ objects_made_by_each loop.history.list loop.mutator
