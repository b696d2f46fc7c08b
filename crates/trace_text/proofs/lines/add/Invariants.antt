use Rattle.std.proofs.Common.{◌≡◌, ◌++◌, take}
use Rattle.trace_text.proofs.lines.add.Given as goal

abbrev pub invariant-loop-item : goal.invariant-loop-item
invariant-loop-item loop = loop.schedule ≡ loop.initial.schedule ++ take loop.item-index loop.items
