use Rattle.std.proofs.Common.{◌≡◌, take}
use Rattle.std.specs.List.{flat_map}
use Rattle.shen_graph.specs.Found.{with_names}
use Rattle.shen_graph.proofs.plain_graph.PlainGraph.add_roots.Given as goal

abbrev pub invariant-loop-row : goal.invariant-loop-row
invariant-loop-row loop = loop.found.items ≡ with_names loop.initial.found.items (flat_map (λ row. row) (take loop.row-index loop.self.roots))
