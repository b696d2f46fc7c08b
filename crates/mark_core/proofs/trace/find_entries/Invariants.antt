use Rattle.std.proofs.Common.{◌≡◌, map}
use Rattle.std.specs.List.{range_with_len}
use Rattle.heap_words.specs.Words.{Buffer}
use Rattle.heap_world.specs.Walk.{with_addresses}
use Rattle.image_graph.specs.State.{memory_of, found_of, AreFound, IsUnchanged}
use Rattle.mark_core.proofs.trace.find_entries.Given as goal

abbrev pub invariant-loop-entry : goal.invariant-loop-entry
invariant-loop-entry locals = record {
  unchanged : IsUnchanged locals.fn.image locals.image;
  found : AreFound locals.image;
  noted : found_of locals.image ≡ with_addresses (found_of locals.fn.image) (map (λ entry. memory_of locals.fn.image (Buffer locals.mutator entry)) (range_with_len 0 locals.entry));
}
