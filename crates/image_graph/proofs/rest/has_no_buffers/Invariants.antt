use Rattle.std.proofs.Common.{◌≡◌, ℕ, ◌<◌}
use Rattle.heap_words.specs.Words.{Current}
use Rattle.image_graph.specs.State.{memory_of}
use Rattle.image_graph.proofs.rest.has_no_buffers.Given as goal

abbrev pub invariant-loop-seat : goal.invariant-loop-seat
invariant-loop-seat loop = (seat : ℕ) → seat < loop.seat → memory_of loop.image (Current seat) ≡ 0
