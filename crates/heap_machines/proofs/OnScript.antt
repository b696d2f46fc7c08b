-- A mutator that takes its turns calls the commands of its script, one after the other.
use Rattle.std.proofs.Common.{◌≡◌, ℕ, zero, suc, ◌+◌, Bool, true, false, List, [], ◌∷◌, ◌++◌, length, take, Option, Some, None, refl, sym, ap, ◌∙◌, add-one}
use Rattle.std.specs.Prelude.{slice_get, if◌then◌else◌}
use Rattle.std.proofs.lemmas.Bool.{false≢true}
use Rattle.std.proofs.lemmas.List.{map-append, length-append, append-nil}
use Rattle.std.proofs.lemmas.Option.{same_Some}
use Rattle.heap_words.specs.declared.config.Config.{Config}
use Rattle.shen_graph.specs.declared.command.Command.{Command}
use Rattle.shen_graph.specs.declared.command.Reply.{Reply}
use Rattle.shen_graph.specs.declared.order.Order.{Order}
use Rattle.shen_graph.specs.declared.order.Order.TheVariants.{Nothing, Begin}
use Rattle.shen_graph.specs.History.{Entry, commands_of}
use Rattle.step_core.specs.Actor.{Machine, mutating, Actor, command_by}
use Rattle.mutator.specs.declared.spot.Spot.{Spot}
use Rattle.mutator.specs.declared.spot.Spot.TheVariants.{Rest, Ended, Gone}
use Rattle.mutator.specs.Orders.{is_between_calls, takes_commands}
use Rattle.heap_world.specs.Change.{Change}
use Rattle.step_core.specs.Machines.{takes_of, machine_after, ended_by, took_of, next_order, is_resting, may_begin}
use Rattle.heap_machines.specs.Turn.{order_for}
use Rattle.heap_machines.specs.Roles.{reply_of_step, is_mutating}
use Rattle.heap_machines.specs.Scripts.{IsOnScript, HasDoneScript}
use Rattle.heap_machines.proofs.Turns.{turn_at_rest, rest_takes}
use Rattle.step_core.proofs.Machines.Roles.{turn_in_call}
use Rattle.heap_machines.proofs.Replies.{given_after, ended_none, ended_some, busy_after, begun_after, ended_after}

-- the first elements and the next are one more
take_next : {A : Type 0} (xs : List A) (index : ℕ) (x : A) → slice_get xs index ≡ Some x → take index xs ++ x ∷ [] ≡ take (index + 1) xs
take_next [] index x element_found = absurd cc
take_next (y ∷ xs) zero x element_found = ap (λ z. z ∷ []) (sym (same_Some y x element_found))
take_next (y ∷ xs) (suc index) x element_found = rw add-one (ap (λ zs. y ∷ zs) (take_next xs index x element_found ∙ rw add-one refl))

-- all elements, where there is no next one
past_end : (script : List Command) (index : ℕ) → slice_get script index ≡ None → take index script ≡ script
past_end [] zero no_next = refl
past_end [] (suc index) no_next = refl
past_end (command ∷ script) zero no_next = absurd cc
past_end (command ∷ script) (suc index) no_next = ap (λ ys. command ∷ ys) (past_end script index no_next)

-- whose command follows in the script
followed : (next : Option Command) (order : Order) (before : Command) → next_order next ≡ order → (command : Command) → next ≡ Some command → (order ≡ Begin command) × (command_by order before ≡ command)
followed next order before order_is command command_found =
    let begins_it : order ≡ Begin command = sym order_is ∙ ap next_order command_found in
    (begins_it, ap (λ (order : Order). command_by order before) begins_it)

-- a mutator that begins something has a next command
pub begins : (change : Change) (config : Config) (next : Option Command) (machine : Machine) (order : Order) (got : ℕ) → may_begin machine ≡ true → order_for next machine ≡ Some order
    → is_resting (machine_after change config order got machine) ≡ false → (command : Command) × (next ≡ Some command)
begins change config next machine order got free_to_begin order_is machine_busy = by_next next (same_Some (next_order next) order (sym (turn_at_rest machine next free_to_begin) ∙ order_is))
  where
    by_next : (found : Option Command) → next_order found ≡ order → (command : Command) × (found ≡ Some command)
    by_next None order_made = absurd (false≢true (sym machine_busy ∙ ap (λ (order : Order). is_resting (machine_after change config order got machine)) (sym order_made) ∙ ended_after change config got machine free_to_begin))
    by_next (Some given_command) order_made = (given_command, refl)

-- who may be given no command, and has a turn, goes on with its call
pub goes_on_with : (next : Option Command) (machine : Machine) (order : Order) → may_begin machine ≡ false → order_for next machine ≡ Some order → (is_resting machine ≡ false) × (order ≡ Nothing)
goes_on_with next machine order not_free order_is = by_takes (takes_of machine Nothing) refl
  where
    turn : (holds : Bool) → takes_of machine Nothing ≡ holds → ◌≡◌ {A = Option Order} (if holds then Some Nothing else None) (Some order)
    turn holds takes = ap (λ (holds : Bool). if holds then Some Nothing else None) (sym takes) ∙ sym (turn_in_call machine next not_free) ∙ order_is

    in_call : takes_of machine Nothing ≡ true → (holds : Bool) → is_resting machine ≡ holds → is_resting machine ≡ false
    in_call takes true machine_rests = absurd (false≢true (sym (rest_takes machine machine_rests) ∙ takes))
    in_call takes false machine_busy = machine_busy

    by_takes : (holds : Bool) → takes_of machine Nothing ≡ holds → (is_resting machine ≡ false) × (order ≡ Nothing)
    by_takes true takes = (in_call takes (is_resting machine) refl, sym (same_Some Nothing order (turn true takes)))
    by_takes false takes = absurd (let turn_told = turn false takes in cc)

module _ (change : Change) (config : Config) (script : List Command) (actor : Actor) (order : Order) (got : ℕ) (on_script : IsOnScript script actor) (order_is : order_for (slice_get script (length actor.calls)) actor.machine ≡ Some order) where
  -- what follows in the script
  abbrev next : Option Command
  next = slice_get script (length actor.calls)

  -- the machine after its turn
  abbrev then_is : Machine
  then_is = machine_after change config order got actor.machine

  obeys : may_begin actor.machine ≡ true → next_order next ≡ order
  obeys free_to_begin = same_Some (next_order next) order (sym (turn_at_rest actor.machine next free_to_begin) ∙ order_is)

  -- after its turn a mutator that is in a call has the next command of its script
  doing_then : is_resting then_is ≡ false → next ≡ Some (command_by order actor.command)
  doing_then machine_busy = by_may (may_begin actor.machine) refl
    where
      by_may : (holds : Bool) → may_begin actor.machine ≡ holds → next ≡ Some (command_by order actor.command)
      by_may true is_free =
          let begin = begins change config next actor.machine order got is_free order_is machine_busy in
          begin.1 ∙ ap (λ (command : Command). Some command) (sym (followed next order actor.command (obeys is_free) begin.0 begin.1).1)
      by_may false not_free =
          let in_call = goes_on_with next actor.machine order not_free order_is in
          on_script.doing in_call.0 ∙ ap (λ (order : Order). Some (command_by order actor.command)) (sym in_call.1)

  -- and where it has ended, there is none
  ended_then : reply_of_step actor.machine ≡ None → is_resting then_is ≡ true → next ≡ None
  ended_then none_given machine_rests = by_may (may_begin actor.machine) refl
    where
      by_next : may_begin actor.machine ≡ true → (found : Option Command) → next ≡ found → found ≡ None
      by_next free_to_begin None found_is = refl
      by_next free_to_begin (Some given_command) found_is =
          let begins_it = (followed next order actor.command (obeys free_to_begin) given_command found_is).0 in
          absurd (false≢true (sym (begun_after change config given_command got actor.machine free_to_begin) ∙ ap (λ (order : Order). is_resting (machine_after change config order got actor.machine)) (sym begins_it) ∙ machine_rests))

      by_may : (holds : Bool) → may_begin actor.machine ≡ holds → next ≡ None
      by_may true is_free = by_next is_free next refl
      by_may false not_free =
          let in_call = goes_on_with next actor.machine order not_free order_is in
          absurd (false≢true (sym (busy_after change config got actor.machine in_call.0 none_given) ∙ ap (λ (order : Order). is_resting (machine_after change config order got actor.machine)) (sym in_call.1) ∙ machine_rests))

  -- it stays on its script
  pub script_step : IsOnScript script (took_of change config actor order got actor.machine)
  script_step = by_given (reply_of_step actor.machine) refl
    where
      by_given : (found : Option Reply) → reply_of_step actor.machine ≡ found → IsOnScript script (took_of change config actor order got actor.machine)
      by_given None no_reply =
          let same_calls : actor.calls ++ ended_by actor.command actor.machine ≡ actor.calls = ap (λ entries. actor.calls ++ entries) (ended_none actor.command actor.machine no_reply) ∙ append-nil actor.calls in
          record {
            done = ap commands_of same_calls ∙ on_script.done ∙ ap (λ (entries : List Entry). take (length entries) script) (sym same_calls);
            doing = λ machine_busy. ap (λ (entries : List Entry). slice_get script (length entries)) same_calls ∙ doing_then machine_busy;
            ended = λ machine_rests is_free. ap (λ (entries : List Entry). slice_get script (length entries)) same_calls ∙ ended_then no_reply machine_rests;
          }
      by_given (Some reply) some_reply =
          let ended_entry = ended_some actor.command actor.machine reply some_reply in
          let given_facts = given_after change config order got actor.machine reply some_reply in
          let calls : actor.calls ++ ended_by actor.command actor.machine ≡ actor.calls ++ ended_entry.0 ∷ [] = ap (λ entries. actor.calls ++ entries) ended_entry.1 in
          record {
            done = ap commands_of calls
                ∙ map-append (λ (entry : Entry). entry.command) actor.calls (ended_entry.0 ∷ [])
                ∙ ap (λ (command : Command). commands_of actor.calls ++ command ∷ []) ended_entry.2
                ∙ ap (λ (commands : List Command). commands ++ actor.command ∷ []) on_script.done
                ∙ take_next script (length actor.calls) actor.command (on_script.doing given_facts.busy)
                ∙ ap (λ (count : ℕ). take count script) (sym (ap length calls ∙ length-append actor.calls (ended_entry.0 ∷ [])));
            doing = λ machine_busy. absurd (false≢true (sym machine_busy ∙ given_facts.rest));
            ended = λ machine_rests is_free. absurd (false≢true (sym is_free ∙ given_facts.free));
          }

-- and where it has no turn, it has called the whole script
pub script_done : (script : List Command) (actor : Actor) → is_mutating actor.machine ≡ true → IsOnScript script actor → order_for (slice_get script (length actor.calls)) actor.machine ≡ None → HasDoneScript script actor
script_done script actor role on_script idle = by_may (may_begin actor.machine) refl
  where
    next : Option Command
    next = slice_get script (length actor.calls)

    goes_on : (machine : Machine) → is_mutating machine ≡ true → is_resting machine ≡ false → order_for (slice_get script (length actor.calls)) machine ≡ None → ⊥
    goes_on (mutating mutator) role machine_busy no_order = never mutator.spot machine_busy no_order
      where
        never : (spot : Spot) → is_between_calls spot ≡ false
            → ◌≡◌ {A = Option Order} (if takes_commands spot then Some (next_order (slice_get script (length actor.calls))) else (if is_between_calls spot then None else Some Nothing)) None → ⊥
        never Rest spot_busy no_turn = cc
        never (Ended reply) spot_busy no_turn = cc
        never Gone spot_busy no_turn = cc
        never _ spot_busy no_turn = cc
    goes_on _ role machine_busy no_order = cc

    by_rest : may_begin actor.machine ≡ false → (holds : Bool) → is_resting actor.machine ≡ holds → HasDoneScript script actor
    by_rest not_free true machine_rests = record { rest = machine_rests; commands = on_script.done ∙ past_end script (length actor.calls) (on_script.ended machine_rests not_free) }
    by_rest not_free false machine_busy = absurd (goes_on actor.machine role machine_busy idle)

    by_may : (holds : Bool) → may_begin actor.machine ≡ holds → HasDoneScript script actor
    by_may true is_free = absurd (let turn_told = sym (turn_at_rest actor.machine (slice_get script (length actor.calls)) is_free) ∙ idle in cc)
    by_may false is_free = by_rest is_free (is_resting actor.machine) refl
