use Rattle.std.proofs.Common.{ℕ, ◌<◌}
use Rattle.heap_words.specs.Words.{Root}
use Rattle.image_graph.specs.State.{memory_of}
use Rattle.image_graph.specs.Laid.{IsReference}
use Rattle.image_graph.proofs.rest.are_roots_right.Given as goal

abbrev pub invariant-loop-index : goal.invariant-loop-index
invariant-loop-index loop = (index : ℕ) → index < loop.index → IsReference loop.objects (memory_of loop.image (Root loop.mutator index))
