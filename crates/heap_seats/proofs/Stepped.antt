-- What a step of its bundle is to a seat.
use Rattle.std.proofs.Common.{◌≡◌, ℕ, zero, suc, ◌+◌, Bool, true, [], ◌∷◌, Some, refl, sym, ap, ◌∙◌, subst}
use Rattle.std.proofs.Math.Nat.{ℕ_set}
use Rattle.std.specs.Prelude.{slice_set, slice_get, unwrap_or, ◌++◌, if◌then◌else◌}
use Rattle.heap_words.specs.declared.config.Config.{Config}
use Rattle.shen_graph.specs.declared.command.Command.{Command}
use Rattle.shen_graph.specs.declared.command.Reply.{Reply}
use Rattle.shen_graph.specs.declared.order.Order.{Order}
use Rattle.shen_graph.specs.declared.order.Order.TheVariants.{Nothing, Begin, End, Hint}
use Rattle.heap_words.specs.Steps.{Finds}
use Rattle.mutator.specs.declared.spot.Spot.{Spot}
use Rattle.mutator.specs.declared.spot.Spot.TheVariants.{Leave}
use Rattle.mutator.specs.Orders.{takes_at}
use Rattle.mutator.specs.Rows.{Mutating, given_at}
use Rattle.shared_table.specs.Views.{View, machine_of, kept_in_view}
use Rattle.shared_table.specs.Counted.{Counted, uncounted_machine, steps_made}
use Rattle.heap_machines.specs.Answer.{stepped_by, says}
use Rattle.heap_machines.specs.Pause.{pause_image}
use Rattle.heap_machines.specs.Roles.{reply_of_step}
use Rattle.heap_machines.specs.declared.stepped.Stepped.{Stepped}
use Rattle.heap_machines.specs.declared.stepped.Stepped.TheVariants as stepped
use Rattle.heap_machines.proofs.Pauses.{heap_pauses}
use Rattle.heap_machines.proofs.Replies.{done_gives, other_gives, given_after, ended_none}
use Rattle.step_core.specs.Actor.{Machine, mutating, Actor, entries_of, command_by}
use Rattle.step_core.specs.Begins.{Run, ending}
use Rattle.step_core.specs.Machines.{takes_of, took_of, answer_of, machine_after, ended_by}
use Rattle.step_core.proofs.Theorem.EveryList.{run_sound}
use Rattle.table_heap.specs.declared.bundle.Bundle.{Bundle}
use Rattle.table_heap.specs.declared.key.HeapKey.{HeapKey}
use Rattle.table_heap.specs.Core.{heap_kind, start_of_key, nobody}
use Rattle.table_heap.specs.State.{start_in, view_of, orders_of, machine_at, order_at, steps_at, IsBundleStep}
use Rattle.table_heap.proofs.Core.{kind_takes, kind_took, begun, run_from}
use Rattle.table_heap.proofs.MachineUnder.{put_there}
use Rattle.table_heap.proofs.Running.{at_number}
use Rattle.table_heap.proofs.Said.{done_by}
use Rattle.heap_seats.specs.Going.{given_by, said_of_step}

-- a mutator that some events lead to has its number as its seat
seat_found : (key : HeapKey) (number : ℕ) (actor : Actor) (order : Order) (got : ℕ) → Finds (heap_kind key.config) (start_of_key key) number actor order got → (mutator : Mutating) → actor.machine ≡ mutating mutator → mutator.seat ≡ number
seat_found key number actor order got finds mutator machine_is = begun key (mutator.seat ≡ number) (hlevel ℕ_set) (λ graph begins.
    let run : Run key.config = run_from key.config (start_of_key key) graph begins finds.reached.events in
    let actor_there : slice_get (ending pause_image key.config run).machines number ≡ Some actor = ap (λ stage. slice_get stage.machines number) finds.reached.ends ∙ finds.here in
    ((run_sound pause_image heap_pauses key.config run).of_heap.numbers number actor mutator (record { here = actor_there; is = machine_is })).0)

-- who gives a reply goes on under no order
leaves_free : (spot : Spot) (made : ℕ) (order : Order) (command : Command) (reply : Reply) → given_at spot ≡ Some reply → takes_at spot made order ≡ true → command_by order command ≡ command
leaves_free (Leave given_reply) made Nothing command reply gives takes = refl
leaves_free (Leave given_reply) made (Begin begun_command) command reply gives takes = absurd cc
leaves_free (Leave given_reply) made End command reply gives takes = refl
leaves_free (Leave given_reply) made (Hint address) command reply gives takes = refl
leaves_free _ made order command reply gives takes = absurd cc

-- the call that a step ends, where it gives this reply
ended_with : (machine : Machine) (command : Command) (number : ℕ) (order : Order) (reply : Reply) → reply_of_step machine ≡ Some reply → takes_of machine order ≡ true → ((mutator : Mutating) → machine ≡ mutating mutator → mutator.seat ≡ number)
    → ended_by command machine ≡ entries_of number (command_by order command) (Some reply)
ended_with (mutating mutator) command number order reply gives takes seat_known =
    ap (entries_of mutator.seat command) gives ∙ ap (λ thread. entries_of thread command (Some reply)) (seat_known mutator refl)
    ∙ ap (λ (command : Command). entries_of number command (Some reply)) (sym (leaves_free mutator.spot mutator.made order command reply gives takes))
ended_with machine_then command number order reply gives takes seat_known = absurd cc

-- what is under the number where an order was taken
pub set_nothing : (view : View Order) (number : ℕ) → unwrap_or (machine_of (slice_set view number (Some Nothing)) number) Nothing ≡ Nothing
set_nothing [] number = refl
set_nothing (first ∷ rest) zero = refl
set_nothing (first ∷ rest) (suc number) = set_nothing rest number

-- and where a step was counted
set_count : (view : View (Counted Actor)) (number count : ℕ) (actor : Actor) → machine_of (kept_in_view uncounted_machine view) number ≡ Some actor → unwrap_or (machine_of (slice_set (kept_in_view steps_made view) number (Some count)) number) 0 ≡ count
set_count [] number count actor actor_there = absurd cc
set_count (first ∷ rest) zero count actor actor_there = refl
set_count (first ∷ rest) (suc number) count actor actor_there = set_count rest number count actor actor_there

module _ (old new : Bundle) (number : ℕ) (step_said : Stepped) (step : IsBundleStep old new number step_said) where
  -- the machine before and after
  abbrev pub was : Actor
  was = step.took.machine

  abbrev order : Order
  order = order_at old number

  abbrev pub then_is : Actor
  then_is = took_of pause_image old.config was order step.got was.machine

  pub there : machine_of (view_of new) number ≡ Some then_is
  there =
      ap (λ asked_view. machine_of asked_view number) (step.took.view ∙ ap (λ then_actor. slice_set (view_of old) number (Some then_actor)) (kind_took old.config was order step.got))
      ∙ put_there (λ (actor : Actor). actor) (view_of old) number was then_is step.took.here

  pub actor_was : unwrap_or (machine_of (view_of old) number) nobody ≡ was
  actor_was = ap (λ actor_found. unwrap_or actor_found nobody) step.took.here

  pub actor_then : unwrap_or (machine_of (view_of new) number) nobody ≡ then_is
  actor_then = ap (λ actor_found. unwrap_or actor_found nobody) there

  machine_was : machine_at old number ≡ was.machine
  machine_was = at_number old number was step.took.here

  pub machine_then : machine_at new number ≡ then_is.machine
  machine_then = at_number new number then_is there

  pub order_then : order_at new number ≡ Nothing
  order_then = ap (λ orders. unwrap_or (machine_of orders number) Nothing) step.orders ∙ set_nothing (orders_of old) number

  pub steps_then : steps_at new number ≡ steps_at old number + 1
  steps_then = ap (λ step_counts. unwrap_or (machine_of step_counts number) 0) step.steps ∙ set_count old.seat.me.0 number (steps_at old number + 1) was step.took.here

  said_is : step_said ≡ stepped_by (answer_of old.config order was.machine step.got)
  said_is = step.said_is ∙ ap (λ machine. says old.config order machine step.got) machine_was

  takes : takes_of was.machine order ≡ true
  takes = sym (kind_takes old.config was order) ∙ step.took.finds.takes

  -- the same, of the machine in memory
  pub machine_goes : machine_at new number ≡ machine_after pause_image old.config order step.got (machine_at old number)
  machine_goes = machine_then ∙ ap (machine_after pause_image old.config order step.got) (sym machine_was)

  pub answers_then : step_said ≡ said_of_step old.config order (machine_at old number) step.got
  answers_then = step.said_is ∙ sym (ap (λ (turn : Bool). if turn then says old.config order (machine_at old number) step.got else stepped.Idle) (ap (λ asked_machine. takes_of asked_machine order) machine_was ∙ takes))

  finds : Finds (heap_kind old.key.value.config) (start_in old) number was order step.got
  finds = subst (λ (config : Config). Finds (heap_kind config) (start_in old) number was order step.got) (sym old.same_sizes) step.took.finds

  ended : ended_by was.command was.machine ≡ entries_of number (command_by order was.command) (given_by step_said then_is.machine)
  ended = by_said step_said said_is
    where
      none : (other_step : Stepped) → (other_step ≡ stepped.Done → ⊥) → other_step ≡ stepped_by (answer_of old.config order was.machine step.got) → ended_by was.command was.machine ≡ []
      none other_step not_done step_is = ended_none was.command was.machine (other_gives old.config order was.machine step.got (λ answer_done. not_done (step_is ∙ ap stepped_by answer_done)))

      by_said : (other_step : Stepped) → other_step ≡ stepped_by (answer_of old.config order was.machine step.got) → ended_by was.command was.machine ≡ entries_of number (command_by order was.command) (given_by other_step then_is.machine)
      by_said stepped.Done step_is =
          let gives = done_gives old.config order was.machine step.got (done_by (answer_of old.config order was.machine step.got) (sym step_is)) in
          let reply_given = given_after pause_image old.config order step.got was.machine gives.0 gives.1 in
          ended_with was.machine was.command number order gives.0 gives.1 takes (seat_found old.key.value number was order step.got finds)
          ∙ ap (entries_of number (command_by order was.command)) (sym reply_given.replied)
      by_said stepped.More step_is = none stepped.More (λ same_answer. absurd cc) step_is
      by_said stepped.Again step_is = none stepped.Again (λ same_answer. absurd cc) step_is
      by_said stepped.Idle step_is = none stepped.Idle (λ same_answer. absurd cc) step_is

  pub calls_then : then_is.calls ≡ was.calls ++ entries_of number (command_by order was.command) (given_by step_said then_is.machine)
  calls_then = ap (λ entries. was.calls ++ entries) ended

  -- the same of what is under the number
  pub calls_go : (unwrap_or (machine_of (view_of new) number) nobody).calls
      ≡ (unwrap_or (machine_of (view_of old) number) nobody).calls ++ entries_of number (command_by (order_at old number) (unwrap_or (machine_of (view_of old) number) nobody).command) (given_by step_said (machine_at new number))
  calls_go =
      ap (λ asked_actor. asked_actor.calls) actor_then ∙ calls_then ∙ ap (λ (actor : Actor). actor.calls ++ entries_of number (command_by order actor.command) (given_by step_said then_is.machine)) (sym actor_was)
      ∙ ap (λ (machine : Machine). (unwrap_or (machine_of (view_of old) number) nobody).calls ++ entries_of number (command_by order (unwrap_or (machine_of (view_of old) number) nobody).command) (given_by step_said machine)) (sym machine_then)

  pub doing_goes : command_by (order_at new number) (unwrap_or (machine_of (view_of new) number) nobody).command ≡ command_by (order_at old number) (unwrap_or (machine_of (view_of old) number) nobody).command
  doing_goes =
      ap (λ (order : Order). command_by order (unwrap_or (machine_of (view_of new) number) nobody).command) order_then ∙ ap (λ (actor : Actor). actor.command) actor_then
      ∙ ap (λ (actor : Actor). command_by order actor.command) (sym actor_was)
