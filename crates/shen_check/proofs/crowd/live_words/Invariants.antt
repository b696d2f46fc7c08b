use Rattle.std.proofs.Common.{◌≡◌, take, sum_by, Some}
use Rattle.shen_graph.specs.Graph.{named}
use Rattle.shen_graph.specs.PlainGraph.{graph_of}
use Rattle.shen_graph.specs.Reach.{size}
use Rattle.shen_check.proofs.crowd.live_words.Given as goal

abbrev pub invariant-loop-name : goal.invariant-loop-name
invariant-loop-name loop = loop.words ≡ sum_by (λ name. size (named (graph_of loop.graph) (Some name))) (take loop.name-index loop.name-items)
