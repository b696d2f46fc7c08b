use Rattle.std.proofs.Common.{◌≡◌}
use Rattle.cycle_words.specs.Marking.Close.{entries_below}
use Rattle.heap_world.specs.Walk.{with_addresses}
use Rattle.image_graph.specs.State.{memory_of, found_of, AreFound, IsUnchanged}
use Rattle.mark_core.proofs.trace.find_all_entries.Given as goal

abbrev pub invariant-loop-mutator : goal.invariant-loop-mutator
invariant-loop-mutator locals = record {
  unchanged : IsUnchanged locals.fn.image locals.image;
  found : AreFound locals.image;
  noted : found_of locals.image ≡ with_addresses (found_of locals.fn.image) (entries_below (memory_of locals.fn.image) locals.mutator);
}
