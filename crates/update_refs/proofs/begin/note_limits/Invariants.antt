use Rattle.std.proofs.Common.{◌≡◌}
use Rattle.image_graph.specs.State.{config_of, memory_of}
use Rattle.update_refs.specs.Steps.{limited}
use Rattle.update_refs.proofs.begin.note_limits.Given as goal

abbrev pub invariant-loop-region : goal.invariant-loop-region
invariant-loop-region locals = record {
  config : config_of locals.image ≡ config_of locals.fn.image;
  words : memory_of locals.image ≡ limited (config_of locals.fn.image) locals.region (memory_of locals.fn.image);
}
