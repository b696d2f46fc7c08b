use Rattle.std.proofs.Common.{◌≡◌, take}
use Rattle.image_graph.specs.State as images
use Rattle.shen_core.specs.State.{config_of, words_of}
use Rattle.heap_tests.proofs.calls_step_by_step.image_of.Given as goal

abbrev pub invariant-loop-at : goal.invariant-loop-at
invariant-loop-at loop = record {
  config : images.config_of loop.image ≡ config_of loop.plain;
  words : take loop.at (images.words_of loop.image) ≡ take loop.at (words_of loop.plain);
}
