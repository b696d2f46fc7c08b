use Rattle.std.proofs.Common.{◌≡◌, map, take}
use Rattle.shen_graph.specs.Found.{with_names}
use Rattle.shen_graph.specs.Step.{name_in}
use Rattle.shen_graph.proofs.found.add_pinned.Given as goal

abbrev pub invariant-loop-slot : goal.invariant-loop-slot
invariant-loop-slot loop = loop.found.items ≡ with_names loop.initial.found.items (map name_in (take loop.slot-index loop.slots))
