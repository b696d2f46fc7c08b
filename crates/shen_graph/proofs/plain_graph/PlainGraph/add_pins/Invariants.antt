use Rattle.std.proofs.Common.{◌≡◌, map, take}
use Rattle.std.specs.List.{flat_map}
use Rattle.shen_graph.specs.Found.{with_names}
use Rattle.shen_graph.specs.Step.{name_in}
use Rattle.shen_graph.proofs.plain_graph.PlainGraph.add_pins.Given as goal

abbrev pub invariant-loop-row : goal.invariant-loop-row
invariant-loop-row loop = loop.found.items ≡ with_names loop.initial.found.items (map name_in (flat_map (λ row. row) (take loop.row-index loop.self.pins)))
