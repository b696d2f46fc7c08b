-- In the events of a schedule each mutator calls the commands of its script, one after the other.
use Rattle.std.proofs.Common.{◌≡◌, ◌≢◌, ◌⊎◌, inl, inr, ℕ, List, length, Option, Some, None, refl, sym, ap, ◌∙◌, arith}
use Rattle.heap_machines.specs.Pause.{pause_image}
use Rattle.std.specs.Prelude.{slice_get, slice_set}
use Rattle.std.specs.Option.{option_map}
use Rattle.std.proofs.lemmas.Bool.{cases_eq, lt-ltb}
use Rattle.std.proofs.lemmas.Option.{same_Some}
use Rattle.heap_words.proofs.Lists.{slice_get-set_other, slice_get-set_same}
use Rattle.heap_words.specs.declared.config.Config.{Config}
use Rattle.heap_machines.proofs.Turns.{role_stays}
use Rattle.heap_machines.proofs.OnScript.{script_step, script_done}
use Rattle.heap_machines.proofs.Openings.{first_actor, first_role, first_on_script}
use Rattle.heap_words.specs.Steps.{Stage, Event, act, go, moved}
use Rattle.heap_words.proofs.Laws.{act_cases}
use Rattle.shen_graph.specs.declared.order.Order.{Order}
use Rattle.step_core.specs.Actor.{Actor}
use Rattle.step_core.specs.Machines.{took_of, kind}
use Rattle.heap_machines.specs.Turn.{order_for}
use Rattle.step_core.specs.Opening.{opening_actor, opening}
use Rattle.step_core.specs.Schedule.{Scripts, nth_script, turn, Agenda, scheduled}
use Rattle.shen_core.specs.Runs.{event}
use Rattle.shen_core.specs.Progress.{AreIdle}
use Rattle.shen_core.specs.Calls.{CallsScript, HasCalled, AllCall, AllHaveCalled}
use Rattle.shen_core.proofs.Turns.{actor_turn, turn_number}
use Rattle.shen_core.proofs.Keeps.{schedule_keeps}

-- a machine makes its event under its own order
own_turn : (number : ℕ) (found : Option Order) (made_event : Event Order) → option_map (λ order. event number order) found ≡ Some made_event → found ≡ Some made_event.order
own_turn number None made_event found = absurd cc
own_turn number (Some order) made_event found = ap (λ (some_event : Event Order). Some some_event.order) (same_Some _ made_event found)

-- a turn keeps that the calls of a mutator are the first of its script
turn_keeps : (config : Config) (scripts : Scripts) (number : ℕ) (stage : Stage Actor) (asked_number : ℕ) (e : Event Order) → turn scripts stage asked_number ≡ Some e → CallsScript scripts stage number → CallsScript scripts (act (kind pause_image config) stage e) number
unfolding kind
turn_keeps config scripts number stage asked_number e turn_made before = act_cases (kind pause_image config) (λ stage. CallsScript scripts stage number) stage e before (λ actor here takes. by_number actor here (cases_eq number e.number))
  where
    other : (actor : Actor) → number ≢ e.number → CallsScript scripts (moved (kind pause_image config) stage e.number actor e.order) number
    other actor numbers_differ = record { actor = before.actor; here = slice_get-set_other stage.machines e.number number _ numbers_differ ∙ before.here; role = before.role; calls = before.calls }

    own : (got : ℕ) (machines : List Actor) (words : List ℕ) (actor : Actor) → slice_get stage.machines e.number ≡ Some actor → actor ≡ before.actor → machines ≡ slice_set stage.machines e.number (took_of pause_image config actor e.order got actor.machine) → number ≡ e.number
        → CallsScript scripts (record { words = words; machines = machines }) number
    own got machines words actor actor_there same_actor machines_made same_number =
        let actor_before = before.actor in
        let order_due : order_for (slice_get (nth_script scripts number) (length actor_before.calls)) actor_before.machine ≡ Some e.order =
        own_turn number (order_for (slice_get (nth_script scripts number) (length actor_before.calls)) actor_before.machine) e (sym (actor_turn scripts stage number actor_before before.here) ∙ ap (turn scripts stage) (same_number ∙ turn_number scripts stage asked_number e turn_made) ∙ turn_made) in
        record {
          actor = took_of pause_image config actor_before e.order got actor_before.machine;
          here = ap (slice_get machines) same_number ∙ ap (λ (some_machines : List Actor). slice_get some_machines e.number) machines_made ∙ slice_get-set_same stage.machines e.number actor (took_of pause_image config actor e.order got actor.machine) actor_there
              ∙ ap (λ (actor : Actor). Some (took_of pause_image config actor e.order got actor.machine)) same_actor;
          role = role_stays pause_image config e.order got actor_before.machine ∙ before.role;
          calls = script_step pause_image config (nth_script scripts number) actor_before e.order got before.calls order_due;
        }

    by_number : (actor : Actor) → slice_get stage.machines e.number ≡ Some actor → ((number ≡ e.number) ⊎ (number ≢ e.number)) → CallsScript scripts (moved (kind pause_image config) stage e.number actor e.order) number
    by_number actor actor_there (inr numbers_differ) = other actor numbers_differ
    by_number actor actor_there (inl same_number) =
        own _ (moved (kind pause_image config) stage e.number actor e.order).machines (moved (kind pause_image config) stage e.number actor e.order).words actor actor_there (same_Some actor before.actor (sym actor_there ∙ ap (slice_get stage.machines) (sym same_number) ∙ before.here)) refl same_number

-- the events of a schedule keep it for each mutator
pub all_call : (config : Config) (scripts : Scripts) (events_left : ℕ) (agenda : Agenda) (stage : Stage Actor) → AllCall config scripts stage → AllCall config scripts (go (kind pause_image config) stage (scheduled pause_image config scripts events_left agenda stage))
all_call config scripts events_left agenda stage calls mutator mutator_below = schedule_keeps config scripts (λ stage. CallsScript scripts stage mutator) (turn_keeps config scripts mutator) events_left agenda stage (calls mutator mutator_below)

-- in the opening there are no calls
pub all_call_first : (config : Config) (scripts : Scripts) → AllCall config scripts (opening config)
all_call_first config scripts mutator mutator_below = record {
  actor = opening_actor config mutator;
  here = first_actor config mutator (omega arith);
  role = first_role config mutator ∙ lt-ltb mutator config.mutators mutator_below;
  calls = first_on_script config mutator (nth_script scripts mutator) mutator_below;
}

-- a mutator without a turn has called its whole script
idle_has_called : (scripts : Scripts) (stage : Stage Actor) (number : ℕ) → CallsScript scripts stage number → turn scripts stage number ≡ None → HasCalled scripts stage number
idle_has_called scripts stage number before idle = record {
  actor = before.actor;
  here = before.here;
  called = script_done (nth_script scripts number) before.actor before.role before.calls
      (nothing_of (order_for (slice_get (nth_script scripts number) (length before.actor.calls)) before.actor.machine) (sym (actor_turn scripts stage number before.actor before.here) ∙ idle));
}
  where
    nothing_of : (found : Option Order) → option_map (λ order. event number order) found ≡ None → found ≡ None
    nothing_of None no_event = refl
    nothing_of (Some some_order) no_event = absurd cc

-- where all machines are idle, each mutator has called its whole script
pub all_have_called : (config : Config) (scripts : Scripts) (stage : Stage Actor) → AreIdle config scripts stage → AllCall config scripts stage → AllHaveCalled config scripts stage
all_have_called config scripts stage idle calls mutator mutator_below = idle_has_called scripts stage mutator (calls mutator mutator_below) (idle mutator (omega arith))
