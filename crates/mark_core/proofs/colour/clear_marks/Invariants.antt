use Rattle.std.proofs.Common.{◌≡◌, []}
use Rattle.heap_world.specs.Walk.{has}
use Rattle.image_graph.specs.State.{config_of, memory_of, found_of, AreFound}
use Rattle.mark_core.specs.Steps.{greyed}
use Rattle.mark_core.proofs.colour.clear_marks.Given as goal

abbrev pub invariant-loop-word : goal.invariant-loop-word
invariant-loop-word locals = record {
  config : config_of locals.image ≡ config_of locals.fn.image;
  same : found_of locals.image ≡ found_of locals.fn.image;
  found : AreFound locals.image;
  words : memory_of locals.image ≡ greyed (config_of locals.fn.image) (has []) locals.word (memory_of locals.fn.image);
}
