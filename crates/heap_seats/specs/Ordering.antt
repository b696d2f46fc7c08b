-- Orders that a seat is given, and why it takes none.
use Rattle.std.specs.Prelude.{ℕ, ◌≡◌, ◌==◌, Bool, Option, Some, None, if◌then◌else◌}
use Rattle.shen_graph.specs.declared.order.Order.{Order}
use Rattle.shen_graph.specs.Valid.{most_objects}
use Rattle.heap_seats.specs.declared.progress.State.{State}
use Rattle.heap_seats.specs.declared.progress.State.TheVariants.{Free, AtWork, Ended}
use Rattle.heap_seats.specs.declared.progress.Refused.{Refused}
use Rattle.heap_seats.specs.declared.progress.Refused.TheVariants as refused
use Rattle.heap_seats.specs.declared.seat.Seat.{Seat}
use Rattle.heap_seats.specs.Seats.{actor_in, order_in, steps_in, state_in, IsSameSeat}

-- it takes none in a call or where one is pending, and none once it has ended
abbrev pub refused_in : State → Option Refused
refused_in Free = None
refused_in AtWork = Some refused.Busy
refused_in Ended = Some refused.Ended

-- and no command that is out of range, or after as many objects as there are names
abbrev pub refused_command : (valid : Bool) (made : ℕ) → State → Option Refused
refused_command valid made Free = if valid then (if made == most_objects then Some refused.Spent else None) else Some refused.OutOfRange
refused_command valid made state = refused_in state

-- it has been given this order, and has not moved
pub record HasOrder (old new : Seat) (order : Order) : Type 0 where
  pub same : IsSameSeat old new
  pub given : order_in new ≡ order
  pub actor : actor_in new ≡ actor_in old
  pub steps : steps_in new ≡ steps_in old
  pub state : state_in new ≡ AtWork
