use Rattle.std.proofs.Common.{◌≡◌}
use Rattle.heap_words.specs.Words.{Root}
use Rattle.image_graph.specs.State.{config_of, memory_of}
use Rattle.cset_choice.proofs.ClearedInTurn.{row}
use Rattle.cset_choice.proofs.begin.clear_roots.Given as goal

abbrev pub invariant-loop-index : goal.invariant-loop-index
invariant-loop-index loop = record {
  config : config_of loop.image ≡ config_of loop.fn.image;
  words : memory_of loop.image ≡ row (config_of loop.fn.image) (memory_of loop.fn.image) (Root loop.mutator) loop.index;
}
