use Rattle.std.proofs.Common.{ℕ, ◌+◌, ◌<◌}
use Rattle.heap_words.specs.Words.{Heap}
use Rattle.image_graph.specs.State.{memory_of}
use Rattle.image_graph.specs.Laid.{IsReference}
use Rattle.image_graph.proofs.objects.are_fields_right.Given as goal

abbrev pub invariant-loop-index : goal.invariant-loop-index
invariant-loop-index loop = (index : ℕ) → index < loop.index → IsReference loop.objects (memory_of loop.image (Heap (loop.address + 3 + index)))
