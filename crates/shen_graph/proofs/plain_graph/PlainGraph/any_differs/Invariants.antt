use Rattle.std.proofs.Common.{◌≡◌, take, false}
use Rattle.std.specs.List.{list_any}
use Rattle.shen_graph.specs.PlainGraph.{differs}
use Rattle.shen_graph.proofs.plain_graph.PlainGraph.any_differs.Given as goal

abbrev pub invariant-loop-row : goal.invariant-loop-row
invariant-loop-row loop = list_any (list_any (differs loop.name loop.place)) (take loop.row-index loop.self.pins) ≡ false
