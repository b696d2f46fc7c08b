use Rattle.std.proofs.Common.{◌≡◌}
use Rattle.image_graph.specs.State.{config_of, words_of, places_of}
use Rattle.full_cycle.specs.Steps.{renewed_by, IsChanged}
use Rattle.full_cycle.proofs.renew.renew_words.Given as goal

abbrev pub invariant-loop-at : goal.invariant-loop-at
invariant-loop-at loop = record {
  config : config_of loop.image ≡ config_of loop.fn.image;
  places : places_of loop.image ≡ places_of loop.fn.image;
  words : IsChanged loop.from loop.at (renewed_by (config_of loop.fn.image).region_words (places_of loop.fn.image)) (words_of loop.fn.image) (words_of loop.image);
}
