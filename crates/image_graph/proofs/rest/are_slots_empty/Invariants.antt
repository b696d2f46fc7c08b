use Rattle.std.proofs.Common.{◌≡◌, ℕ, ◌<◌}
use Rattle.heap_words.specs.Words.{Pin}
use Rattle.image_graph.specs.State.{memory_of}
use Rattle.image_graph.proofs.rest.are_slots_empty.Given as goal

abbrev pub invariant-loop-slot : goal.invariant-loop-slot
invariant-loop-slot loop = (slot : ℕ) → slot < loop.slot → memory_of loop.image (Pin loop.mutator slot) ≡ 0
