use Rattle.std.proofs.Common.{◌≡◌}
use Rattle.image_graph.specs.State.{config_of, memory_of, places_of}
use Rattle.degenerated.specs.Steps.{kept_now, fields_updated, is_of_first}
use Rattle.degenerated.proofs.fields.update_fields.Given as goal

abbrev pub invariant-loop-region : goal.invariant-loop-region
invariant-loop-region loop = record {
  config : config_of loop.image ≡ config_of loop.fn.image;
  places : places_of loop.image ≡ places_of loop.fn.image;
  words : memory_of loop.image ≡ fields_updated (config_of loop.fn.image) (kept_now loop.fn.image) (is_of_first (config_of loop.fn.image) loop.region) (memory_of loop.fn.image);
}
