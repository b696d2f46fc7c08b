use Rattle.std.proofs.Common.{◌≡◌, ◌-◌, set}
use Rattle.shen_graph.specs.GraphText.{roots_of}
use Rattle.heap_dump.proofs.Copied.{mixed}
use Rattle.heap_dump.proofs.dump.copy_roots_of.Given as goal

abbrev pub invariant-loop-index : goal.invariant-loop-index
invariant-loop-index loop =
    loop.text ≡ record loop.initial.text { roots = set loop.initial.text.roots (loop.thread - 1) (mixed loop.index (roots_of loop.graph loop.thread) (roots_of loop.initial.text loop.thread)) }
