use Rattle.std.proofs.Common.{◌≡◌, false, take, List, ◌++◌}
use Rattle.heap_seats.specs.declared.seat.Seat.{Seat}
use Rattle.heap_seats.specs.Gathered.{AreGathered}
use Rattle.covremuj.specs.OpenedHandles.{seats_held, any_held}
use Rattle.covremuj.specs.ClosedHandles.{seats_in}
use Rattle.covremuj.proofs.closing.give_up_all.Given as goal

abbrev pub invariant-loop-at : goal.invariant-loop-at
invariant-loop-at loop = (any_held (take loop.at (seats_held loop.handles)) ≡ false) × (before : List Seat) × AreGathered before loop.gathering × (before ++ seats_in (seats_held loop.handles) ≡ seats_in (seats_held loop.initial.handles))
