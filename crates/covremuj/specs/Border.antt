-- What each call does to the seat that a handle holds. A handle is empty, or it holds one seat.
use Rattle.std.specs.Prelude.{ℕ, ◌≡◌, Bool, true, false, Option, Some, None}
use Rattle.shen_graph.specs.declared.command.Command.{Command}
use Rattle.shen_graph.specs.declared.order.Order.{Order}
use Rattle.shen_graph.specs.declared.order.Order.TheVariants.{Begin, End}
use Rattle.shen_graph.specs.Valid.{is_valid}
use Rattle.heap_seats.specs.declared.progress.Progress.{Progress}
use Rattle.heap_seats.specs.declared.progress.Refused.{Refused}
use Rattle.heap_seats.specs.declared.seat.Seat.{Seat}
use Rattle.heap_seats.specs.Seats.{objects_made_by, is_mutator, state_in}
use Rattle.heap_seats.specs.Ordering.{refused_in, refused_command, HasOrder}
use Rattle.heap_seats.specs.Going.{HasGoneOn}
use Rattle.covremuj.specs.declared.border.Value.{Value}
use Rattle.covremuj.specs.StatusNumbers.{number_of_progress, number_of_refused}
use Rattle.covremuj.specs.Answers.{value_after}

-- nothing has changed, and this was answered
abbrev pub IsRefusedCall : Seat → Option Seat → (why answer : ℕ) → Type 0
IsRefusedCall seat held why answer = (held ≡ Some seat) × (answer ≡ why)

-- ---- orders

-- the order was taken, which is answered by 0, or it was not, by its cause
abbrev pub TakesOrder : Seat → Option Seat → Order → Option Refused → ℕ → Type 0
TakesOrder seat held order None answer = (new : Seat) × (held ≡ Some new) × HasOrder seat new order × (answer ≡ 0)
TakesOrder seat held order (Some why) answer = IsRefusedCall seat held (number_of_refused why) answer

-- where there is no such command, the state of the seat is answered first
abbrev pub no_command : Option Refused → ℕ
no_command None = 36
no_command (Some why) = number_of_refused why

abbrev pub BeginsBy : Bool → Seat → Option Seat → Option Command → ℕ → Type 0
BeginsBy false seat held command answer = IsRefusedCall seat held 33 answer
BeginsBy true seat held None answer = IsRefusedCall seat held (no_command (refused_in (state_in seat))) answer
BeginsBy true seat held (Some command) answer = TakesOrder seat held (Begin command) (refused_command (is_valid command) (objects_made_by seat) (state_in seat)) answer

-- a command is ordered of a mutator
abbrev pub HandleBegins : Option Seat → Option Seat → Option Command → ℕ → Type 0
HandleBegins None held command answer = (held ≡ None) × (answer ≡ 32)
HandleBegins (Some seat) held command answer = BeginsBy (is_mutator seat) seat held command answer

abbrev pub EndsBy : Bool → Seat → Option Seat → ℕ → Type 0
EndsBy false seat held answer = IsRefusedCall seat held 33 answer
EndsBy true seat held answer = TakesOrder seat held End (refused_in (state_in seat)) answer

-- its end is ordered
abbrev pub HandleEnds : Option Seat → Option Seat → ℕ → Type 0
HandleEnds None held answer = (held ≡ None) × (answer ≡ 32)
HandleEnds (Some seat) held answer = EndsBy (is_mutator seat) seat held answer

-- ---- steps

-- a seat has gone on, and this was answered
pub record SeatGoes (seat : Seat) (held : Option Seat) (steps answer : ℕ) (before after : Value) : Type 0 where
  pub new : Seat
  pub said : Progress
  pub holds : held ≡ Some new
  pub gone : HasGoneOn seat new steps said
  pub answers : answer ≡ number_of_progress said
  pub value : after ≡ value_after said before

abbrev pub GoesBy : Bool → Seat → Option Seat → (steps answer : ℕ) → (before after : Value) → Type 0
GoesBy false seat held steps answer before after = (held ≡ Some seat) × (answer ≡ 33) × (after ≡ before)
GoesBy true seat held steps answer before after = SeatGoes seat held steps answer before after

-- a mutator makes so many steps at most
abbrev pub HandleGoesOn : Option Seat → Option Seat → (steps answer : ℕ) → (before after : Value) → Type 0
HandleGoesOn None held steps answer before after = (held ≡ None) × (answer ≡ 32) × (after ≡ before)
HandleGoesOn (Some seat) held steps answer before after = GoesBy (is_mutator seat) seat held steps answer before after

-- a helper or the control has worked, and this was answered
pub record Works (seat : Seat) (held : Option Seat) (steps answer : ℕ) : Type 0 where
  pub new : Seat
  pub said : Progress
  pub holds : held ≡ Some new
  pub gone : HasGoneOn seat new steps said
  pub answers : answer ≡ number_of_progress said

abbrev pub WorksBy : Bool → Seat → Option Seat → (steps answer : ℕ) → Type 0
WorksBy true seat held steps answer = IsRefusedCall seat held 33 answer
WorksBy false seat held steps answer = Works seat held steps answer

-- a helper or the control makes so many steps at most
abbrev pub WorksOn : Option Seat → Option Seat → (steps answer : ℕ) → Type 0
WorksOn None held steps answer = (held ≡ None) × (answer ≡ 32)
WorksOn (Some seat) held steps answer = WorksBy (is_mutator seat) seat held steps answer
