use Rattle.std.proofs.Common.{◌≡◌}
use Rattle.heap_words.specs.Words.{Answer}
use Rattle.image_graph.specs.State.{config_of, memory_of}
use Rattle.cset_choice.proofs.ClearedInTurn.{row}
use Rattle.cset_choice.proofs.begin.clear_answers.Given as goal

abbrev pub invariant-loop-mutator : goal.invariant-loop-mutator
invariant-loop-mutator loop = record {
  config : config_of loop.image ≡ config_of loop.fn.image;
  words : memory_of loop.image ≡ row (config_of loop.fn.image) (memory_of loop.fn.image) Answer loop.mutator;
}
