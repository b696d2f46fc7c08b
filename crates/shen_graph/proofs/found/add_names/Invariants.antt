use Rattle.std.proofs.Common.{◌≡◌, take}
use Rattle.shen_graph.specs.Found.{with_names}
use Rattle.shen_graph.proofs.found.add_names.Given as goal

abbrev pub invariant-loop-reference : goal.invariant-loop-reference
invariant-loop-reference loop = loop.found.items ≡ with_names loop.initial.found.items (take loop.reference-index loop.references)
