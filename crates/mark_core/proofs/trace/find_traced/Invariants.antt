use Rattle.std.proofs.Common.{◌≡◌, ◌≤◌, ◌-◌}
use Rattle.heap_words.specs.Words.{heap_size}
use Rattle.image_graph.specs.State.{config_of, memory_of, found_of, AreFound, IsUnchanged}
use Rattle.cycle_words.specs.Marking.Close.{traced_by}
use Rattle.mark_core.proofs.trace.find_traced.Given as goal

abbrev pub invariant-loop-address : goal.invariant-loop-address
invariant-loop-address locals = record {
  unchanged : IsUnchanged locals.fn.image locals.image;
  found : AreFound locals.image;
  turns : found_of locals.image ≡ traced_by (config_of locals.fn.image) (memory_of locals.fn.image) locals.turn;
  few : locals.turn ≤ heap_size (config_of locals.fn.image);
}

abbrev pub decreases-loop-address : goal.decreases-loop-address
decreases-loop-address locals = heap_size (config_of locals.fn.image) - locals.turn
