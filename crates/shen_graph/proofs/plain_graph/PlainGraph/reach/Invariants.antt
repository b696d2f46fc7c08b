use Rattle.std.proofs.Common.{◌-◌, length}
use Rattle.shen_graph.proofs.ReachLemmas.{names_of, IsSearched}
use Rattle.shen_graph.proofs.plain_graph.PlainGraph.reach.Given as goal

abbrev pub invariant-loop-next : goal.invariant-loop-next
invariant-loop-next loop = IsSearched loop.self loop.found.items loop.next

abbrev pub decreases-loop-next : goal.decreases-loop-next
decreases-loop-next loop = length (names_of loop.self) - loop.next
