use Rattle.std.proofs.Common.{◌≡◌, ℕ}
use Rattle.image_graph.specs.State.{config_of, words_of}
use Rattle.full_cycle.specs.Steps.{IsChanged}
use Rattle.full_cycle.proofs.calm.clear_words.Given as goal

abbrev pub invariant-loop-at : goal.invariant-loop-at
invariant-loop-at loop = record {
  config : config_of loop.image ≡ config_of loop.fn.image;
  words : IsChanged loop.from loop.at (λ (word : ℕ). 0) (words_of loop.fn.image) (words_of loop.image);
}
