use Rattle.std.proofs.Common.{◌≡◌, ◌≤◌, ◌-◌, take}
use Rattle.heap_words.specs.Words.{heap_size, bit_words}
use Rattle.heap_world.specs.Walk.{has}
use Rattle.image_graph.specs.State.{config_of, memory_of, found_of, AreFound}
use Rattle.mark_core.specs.Steps.{greyed}
use Rattle.mark_core.proofs.colour.grey_found.Given as goal

abbrev pub invariant-loop-address : goal.invariant-loop-address
invariant-loop-address locals = record {
  config : config_of locals.image ≡ config_of locals.fn.image;
  same : found_of locals.image ≡ found_of locals.fn.image;
  found : AreFound locals.image;
  words : memory_of locals.image ≡ greyed (config_of locals.fn.image) (has (take locals.turn (found_of locals.fn.image))) (bit_words (config_of locals.fn.image)) (memory_of locals.fn.image);
  few : locals.turn ≤ heap_size (config_of locals.fn.image);
}

abbrev pub decreases-loop-address : goal.decreases-loop-address
decreases-loop-address locals = heap_size (config_of locals.fn.image) - locals.turn
