-- Orders of a seat that a handle holds.
use Rattle.std.proofs.Common.{◌≡◌, ℕ, Bool, true, Option, Some, None, refl, sym, ap, subst}
use Rattle.std.specs.Prelude.{Result, Ok, Err, OnErr, OnOk}
use Rattle.std.specs.Result.{result_err}
use Rattle.shen_graph.specs.declared.command.Command.{Command}
use Rattle.shen_graph.specs.declared.order.Order.{Order}
use Rattle.shen_graph.specs.declared.order.Order.TheVariants.{Begin, End}
use Rattle.shen_graph.specs.Valid.{is_valid}
use Rattle.heap_seats.specs.declared.progress.Refused.{Refused}
use Rattle.heap_seats.specs.declared.seat.Seat.{Seat}
use Rattle.heap_seats.specs.Seats.{objects_made_by, is_mutator, state_in}
use Rattle.heap_seats.specs.Ordering.{refused_in, refused_command, HasOrder}
use Rattle.heap_seats.proofs.OrderRefusals.{refused_first}
use Rattle.covremuj.specs.StatusNumbers.{number_of_order, number_of_refused}
use Rattle.covremuj.specs.Border.{TakesOrder, no_command, BeginsBy, EndsBy}

-- what a seat answers to an order
takes : (seat new : Seat) (order : Order) (result : Result (Unit {0}) Refused) (answer : ℕ) → OnErr result (new ≡ seat) → OnOk result (HasOrder seat new order) → answer ≡ number_of_order (result_err result) → TakesOrder seat (Some new) order (result_err result) answer
takes seat new order (Ok unit) answer same_if_refused ordered answer_is = (new, refl, ordered, answer_is)
takes seat new order (Err refusal) answer same_if_refused ordered answer_is = (ap (λ (seat : Seat). Some seat) same_if_refused, answer_is)

pub begins_refused : (seat : Seat) (command : Option Command) (refusal : Refused) → is_mutator seat ≡ true → Some refusal ≡ refused_in (state_in seat) → BeginsBy (is_mutator seat) seat (Some seat) command (number_of_refused refusal)
begins_refused seat command refusal role refused_why = subst (λ (holds : Bool). BeginsBy holds seat (Some seat) command (number_of_refused refusal)) (sym role) (by_command command)
  where
    by_command : (asked_command : Option Command) → BeginsBy true seat (Some seat) asked_command (number_of_refused refusal)
    by_command None = (refl, ap no_command refused_why)
    by_command (Some given_command) =
        subst (λ (found : Option Refused). TakesOrder seat (Some seat) (Begin given_command) found (number_of_refused refusal)) (refused_first (is_valid given_command) (objects_made_by seat) (state_in seat) refusal refused_why) (refl, refl)

pub begins_command : (seat new : Seat) (command : Command) (result : Result (Unit {0}) Refused) (answer : ℕ) → is_mutator seat ≡ true → result_err result ≡ refused_command (is_valid command) (objects_made_by seat) (state_in seat) → OnErr result (new ≡ seat) → OnOk result (HasOrder seat new (Begin command))
    → answer ≡ number_of_order (result_err result) → BeginsBy (is_mutator seat) seat (Some new) (Some command) answer
begins_command seat new command result answer role refused same_if_refused ordered answer_is =
    subst (λ (holds : Bool). BeginsBy holds seat (Some new) (Some command) answer) (sym role)
    (subst (λ (found : Option Refused). TakesOrder seat (Some new) (Begin command) found answer) refused (takes seat new (Begin command) result answer same_if_refused ordered answer_is))

pub ends_taken : (seat new : Seat) (result : Result (Unit {0}) Refused) (answer : ℕ) → is_mutator seat ≡ true → result_err result ≡ refused_in (state_in seat) → OnErr result (new ≡ seat) → OnOk result (HasOrder seat new End)
    → answer ≡ number_of_order (result_err result) → EndsBy (is_mutator seat) seat (Some new) answer
ends_taken seat new result answer role refused same_if_refused ordered answer_is =
    subst (λ (holds : Bool). EndsBy holds seat (Some new) answer) (sym role)
    (subst (λ (found : Option Refused). TakesOrder seat (Some new) End found answer) refused (takes seat new End result answer same_if_refused ordered answer_is))
