use Rattle.std.proofs.Common.{◌≡◌}
use Rattle.image_graph.specs.State.{config_of, memory_of}
use Rattle.cycle_words.specs.Marking.Final.{is_dead}
use Rattle.mark_core.specs.Steps.{freed_below}
use Rattle.mark_core.proofs.dead.free_dead.Given as goal

abbrev pub invariant-loop-region : goal.invariant-loop-region
invariant-loop-region locals = record {
  config : config_of locals.image ≡ config_of locals.fn.image;
  words : memory_of locals.image ≡ freed_below (is_dead (config_of locals.fn.image) (memory_of locals.fn.image)) locals.region (memory_of locals.fn.image);
}
