use Rattle.std.proofs.Common.{◌≡◌}
use Rattle.image_graph.specs.State.{config_of, memory_of}
use Rattle.cset_choice.specs.Steps.{words_copied}
use Rattle.cset_choice.proofs.copy.copy_words.Given as goal

abbrev pub invariant-loop-index : goal.invariant-loop-index
invariant-loop-index loop = record {
  config : config_of loop.image ≡ config_of loop.fn.image;
  words : memory_of loop.image ≡ words_copied loop.from loop.to loop.index (memory_of loop.fn.image);
}
