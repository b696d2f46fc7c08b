-- The machines that a heap was left with are those of its seats: they rest, and their threads have made as many objects as was noted.
use Rattle.std.proofs.Common.{◌≡◌, ◌<◌, ℕ, List, length, Some, sym, ap, ◌∙◌, subst, arith}
use Rattle.std.specs.Prelude.{slice_get, slice_index}
use Rattle.std.proofs.lemmas.Option.{slice_get_within, same_Some}
use Rattle.heap_words.proofs.Lists.{element_at}
use Rattle.heap_words.specs.declared.config.Config.{Config}
use Rattle.shared_table.specs.Views.{machine_of}
use Rattle.step_core.specs.Actor.{Actor}
use Rattle.step_core.specs.AtRest.{IsAtRest}
use Rattle.step_core.specs.Machines.{made_of_machine}
use Rattle.heap_machines.specs.Reopened.{AreMadeBy}
use Rattle.heap_machines.proofs.ComeToRest.{HasComeToRest, all_at_rest}
use Rattle.table_heap.specs.declared.bundle.Bundle.{Bundle}
use Rattle.table_heap.specs.declared.closed.Closed.{Closed}
use Rattle.table_heap.specs.Closed as closed
use Rattle.table_heap.specs.State.{view_of, machine_at}
use Rattle.table_heap.proofs.Running.{at_number}
use Rattle.heap_seats.specs.declared.seat.Seat.{Seat}
use Rattle.heap_seats.specs.Seats.{number_of, actor_in}
use Rattle.heap_seats.specs.GivenUp.{AreMachinesOf, AreMachinesLeft}
use Rattle.heap_seats.specs.Renewed.{AllEnded}
use Rattle.heap_seats.proofs.Joined.{seat_has_rested}

module _ (seats : List Seat) (left_machines : Closed) (machines : AreMachinesLeft seats left_machines) where
  -- whose it is
  of_seat : (number : ℕ) (actor : Actor) → slice_get (closed.machines_of left_machines) number ≡ Some actor → (seat : Seat) × (slice_get seats number ≡ Some seat) × (actor_in seat ≡ actor)
  of_seat number actor actor_there =
      let number_within = slice_get_within (closed.machines_of left_machines) number actor actor_there in
      let count = machines.count in
      let found_seat = element_at seats number (omega (arith, number_within, count)) in
      (found_seat.0, found_seat.1, same_Some (actor_in found_seat.0) actor (sym (machines.each number found_seat.0 found_seat.1) ∙ actor_there))

  pub left_rests : AllEnded seats → (config : Config) → IsAtRest config (closed.stage_of left_machines)
  left_rests all_over config = all_at_rest config (closed.stage_of left_machines) (λ number asked_actor actor_there.
      let found_seat = of_seat number asked_actor actor_there in
      subst (λ (actor : Actor). HasComeToRest actor.machine) found_seat.2 (seat_has_rested found_seat.0 (all_over number found_seat.0 found_seat.1)))

pub left_made : (threads : ℕ) (seats : List Seat) (bundle : Bundle) (left_machines : Closed) → AreMachinesOf seats (view_of bundle) → AreMachinesLeft seats left_machines → ((index : ℕ) (seat : Seat) → slice_get seats index ≡ Some seat → number_of seat ≡ index)
    → (counts : List ℕ) → length counts ≡ threads → ((thread : ℕ) → thread < threads → slice_index counts thread ≡ made_of_machine (machine_at bundle thread)) → AreMadeBy threads (closed.stage_of left_machines) counts
left_made threads seats bundle left_machines theirs machines numbers counts counts_length each_made = record {
  long = counts_length;
  each = λ thread asked_actor thread_below actor_there.
      let found_seat = of_seat seats left_machines machines thread asked_actor actor_there in
      let seat_machine : machine_of (view_of bundle) thread ≡ Some (actor_in found_seat.0) = ap (machine_of (view_of bundle)) (sym (numbers thread found_seat.0 found_seat.1)) ∙ theirs.each thread found_seat.0 found_seat.1 in
      each_made thread thread_below ∙ ap made_of_machine (at_number bundle thread (actor_in found_seat.0) seat_machine ∙ ap (λ (actor : Actor). actor.machine) found_seat.2);
}
