use Rattle.std.proofs.Common.{◌≡◌, ◌+◌, map}
use Rattle.std.specs.List.{range_with_len}
use Rattle.heap_words.specs.Words.{Heap}
use Rattle.heap_world.specs.Walk.{with_addresses}
use Rattle.image_graph.specs.Full.{copies_of}
use Rattle.image_graph.specs.State.{memory_of, found_of, AreFound, IsUnchanged}
use Rattle.full_cycle.proofs.walk.find_fields.Given as goal

abbrev pub invariant-loop-index : goal.invariant-loop-index
invariant-loop-index loop = record {
  unchanged : IsUnchanged loop.fn.image loop.image;
  found : AreFound loop.image;
  noted : found_of loop.image ≡ with_addresses (found_of loop.fn.image) (copies_of (memory_of loop.fn.image) (map (λ index. memory_of loop.fn.image (Heap (loop.address + 3 + index))) (range_with_len 0 loop.index)));
}
