use Rattle.std.proofs.Common.{◌≡◌}
use Rattle.image_graph.specs.State.{config_of, memory_of, places_of}
use Rattle.degenerated.specs.Steps.{kept_now, answers_updated}
use Rattle.degenerated.proofs.update.update_answers.Given as goal

abbrev pub invariant-loop-mutator : goal.invariant-loop-mutator
invariant-loop-mutator loop = record {
  config : config_of loop.image ≡ config_of loop.fn.image;
  places : places_of loop.image ≡ places_of loop.fn.image;
  words : memory_of loop.image ≡ answers_updated (config_of loop.fn.image) (kept_now loop.fn.image) loop.mutator (memory_of loop.fn.image);
}
