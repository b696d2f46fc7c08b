use Rattle.std.proofs.Common.{◌≡◌, false, take, List, ◌++◌}
use Rattle.heap_seats.specs.declared.seat.Seat.{Seat}
use Rattle.covremuj.specs.OpenedHandles.{seats_held, any_held}
use Rattle.covremuj.specs.ClosedHandles.{seats_in}
use Rattle.covremuj.specs.RenewedHandles.{AreGivenIn}
use Rattle.covremuj.proofs.renewing.give_up.Given as goal

abbrev pub invariant-loop-at : goal.invariant-loop-at
invariant-loop-at loop = (any_held (take loop.at (seats_held loop.handles)) ≡ false) × (before : List Seat) × AreGivenIn before loop.closing × (before ++ seats_in (seats_held loop.handles) ≡ seats_in (seats_held loop.initial.handles))
