use Rattle.std.proofs.Common.{◌≡◌, map}
use Rattle.std.specs.List.{range_with_len}
use Rattle.heap_words.specs.Words.{Root}
use Rattle.heap_world.specs.Walk.{with_addresses}
use Rattle.image_graph.specs.State.{memory_of, found_of, AreFound, IsUnchanged}
use Rattle.mark_core.proofs.begin.find_roots.Given as goal

abbrev pub invariant-loop-index : goal.invariant-loop-index
invariant-loop-index locals = record {
  unchanged : IsUnchanged locals.fn.image locals.image;
  found : AreFound locals.image;
  noted : found_of locals.image ≡ with_addresses (found_of locals.fn.image) (map (λ index. memory_of locals.fn.image (Root locals.mutator index)) (range_with_len 0 locals.index));
}
