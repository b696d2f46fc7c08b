use Rattle.std.proofs.Common.{◌≡◌, false, take}
use Rattle.covremuj.specs.OpenedHandles.{seats_held, any_held}
use Rattle.covremuj.proofs.opening.any_open.Given as goal

abbrev pub invariant-loop-at : goal.invariant-loop-at
invariant-loop-at loop = (seats_held loop.handles ≡ seats_held loop.initial.handles) × (any_held (take loop.at (seats_held loop.handles)) ≡ false)
