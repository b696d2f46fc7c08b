use Rattle.std.proofs.Common.{◌≡◌, take}
use Rattle.listing_lines.proofs.scout.copy_of.Given as goal

abbrev pub invariant-loop-item : goal.invariant-loop-item
invariant-loop-item loop = loop.copy ≡ take loop.item-index loop.item-items
