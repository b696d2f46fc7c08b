use Rattle.std.proofs.Common.{◌≡◌}
use Rattle.image_graph.specs.State.{config_of, memory_of, places_of}
use Rattle.degenerated.specs.Steps.{kept_now, row_updated}
use Rattle.degenerated.proofs.update.update_roots.Given as goal

abbrev pub invariant-loop-index : goal.invariant-loop-index
invariant-loop-index loop = record {
  config : config_of loop.image ≡ config_of loop.fn.image;
  places : places_of loop.image ≡ places_of loop.fn.image;
  words : memory_of loop.image ≡ row_updated (config_of loop.fn.image) (kept_now loop.fn.image) loop.mutator loop.index (memory_of loop.fn.image);
}
