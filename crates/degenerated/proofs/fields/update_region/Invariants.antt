use Rattle.std.proofs.Common.{◌≡◌, ◌+◌, ◌-◌}
use Rattle.heap_words.specs.Words.{Heap}
use Rattle.regions.specs.Place.{base_of}
use Rattle.regions.specs.Walk.{start_of}
use Rattle.image_graph.specs.State.{config_of, memory_of, places_of}
use Rattle.degenerated.specs.Steps.{kept_now, fields_updated, is_below}
use Rattle.degenerated.proofs.fields.update_region.Given as goal

abbrev pub invariant-loop-offset : goal.invariant-loop-offset
invariant-loop-offset loop = record {
  config : config_of loop.image ≡ config_of loop.fn.image;
  places : places_of loop.image ≡ places_of loop.fn.image;
  words : memory_of loop.image ≡ fields_updated (config_of loop.fn.image) (kept_now loop.fn.image) (is_below (config_of loop.fn.image) loop.region loop.offset) (memory_of loop.fn.image);
  object : loop.object ≡ base_of (config_of loop.fn.image) loop.region + start_of (λ address. memory_of loop.fn.image (Heap address)) (base_of (config_of loop.fn.image) loop.region) (loop.offset - 1);
}
