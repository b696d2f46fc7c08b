use Rattle.std.proofs.Common.{◌≡◌, true, take, length}
use Rattle.covremuj.specs.OpenedHandles.{seats_held}
use Rattle.covremuj.specs.ClosedHandles.{all_show}
use Rattle.covremuj.proofs.closing.all_show.Given as goal

abbrev pub invariant-loop-at : goal.invariant-loop-at
invariant-loop-at loop = (seats_held loop.handles ≡ seats_held loop.initial.handles) × (all_show loop.asked loop.seats 0 (take loop.at (seats_held loop.handles)) ≡ true) × (loop.seats ≡ length (seats_held loop.handles))
