use Rattle.std.proofs.Common.{◌≡◌, take}
use Rattle.shen_graph.specs.PlainGraph.{graph_of}
use Rattle.shen_check.specs.JudgeState.{names_held, words_held}
use Rattle.shen_check.proofs.crowd.held_words.Given as goal

abbrev pub invariant-loop-pinned : goal.invariant-loop-pinned
invariant-loop-pinned loop = record {
  names : loop.names.items ≡ names_held (take loop.pinned-index loop.held);
  sum : loop.words ≡ words_held (graph_of loop.graph) loop.names.items;
}
