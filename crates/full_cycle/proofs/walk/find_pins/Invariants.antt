use Rattle.std.proofs.Common.{◌≡◌, map}
use Rattle.std.specs.List.{range_with_len}
use Rattle.heap_words.specs.Words.{Pin}
use Rattle.heap_world.specs.Walk.{with_addresses}
use Rattle.image_graph.specs.Full.{copies_of}
use Rattle.image_graph.specs.State.{memory_of, found_of, AreFound, IsUnchanged}
use Rattle.full_cycle.proofs.walk.find_pins.Given as goal

abbrev pub invariant-loop-slot : goal.invariant-loop-slot
invariant-loop-slot loop = record {
  unchanged : IsUnchanged loop.fn.image loop.image;
  found : AreFound loop.image;
  noted : found_of loop.image ≡ with_addresses (found_of loop.fn.image) (copies_of (memory_of loop.fn.image) (map (λ slot. memory_of loop.fn.image (Pin loop.mutator slot)) (range_with_len 0 loop.slot)));
}
