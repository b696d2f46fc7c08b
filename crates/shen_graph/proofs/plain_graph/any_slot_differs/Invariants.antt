use Rattle.std.proofs.Common.{◌≡◌, take, false}
use Rattle.std.specs.List.{list_any}
use Rattle.shen_graph.specs.PlainGraph.{differs}
use Rattle.shen_graph.proofs.plain_graph.any_slot_differs.Given as goal

abbrev pub invariant-loop-slot : goal.invariant-loop-slot
invariant-loop-slot loop = list_any (differs loop.name loop.place) (take loop.slot-index loop.slots) ≡ false
