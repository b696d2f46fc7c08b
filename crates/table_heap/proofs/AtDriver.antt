-- One mutator and its driver: what stays from turn to turn.
use Rattle.std.proofs.Common.{◌≡◌, ◌<◌, ◌≤◌, ℕ, Bool, true, false, List, [], ◌∷◌, ◌++◌, length, take, Option, Some, None, refl, sym, ap, ◌∙◌, subst, arith}
use Rattle.std.specs.Prelude.{slice_get}
use Rattle.std.proofs.lemmas.Bool.{false≢true}
use Rattle.std.proofs.lemmas.List.{length-map, append-nil}
use Rattle.std.proofs.lemmas.Option.{same_Some}
use Rattle.heap_words.specs.declared.config.Config.{Config}
use Rattle.heap_machines.specs.Pause.{pause_image}
use Rattle.shen_graph.specs.declared.command.Command.{Command}
use Rattle.shen_graph.specs.declared.command.Command.TheVariants.{New}
use Rattle.shen_graph.specs.declared.command.Reply.{Reply}
use Rattle.shen_graph.specs.declared.order.Order.{Order}
use Rattle.shen_graph.specs.declared.order.Order.TheVariants.{Begin}
use Rattle.table_heap.specs.Drivers.{IsDrivenFrom, driver_after}
use Rattle.shen_graph.specs.History.{Entry, commands_of}
use Rattle.shen_graph.specs.Step.{IsNew}
use Rattle.shen_graph.specs.Valid.{most_objects}
use Rattle.table_heap.proofs.DriverLemmas.{driven_more, after_more}
use Rattle.step_core.specs.Actor.{Machine, Actor, command_by}
use Rattle.step_core.specs.Machines.{is_resting, may_begin, took_of, ended_by, machine_after, next_order}
use Rattle.table_heap.specs.Makes.{makes_object, call_in}
use Rattle.heap_machines.specs.Roles.{is_mutating, reply_of_step}
use Rattle.heap_machines.specs.Scripts.{IsOnScript}
use Rattle.heap_machines.specs.Turn.{order_for}
use Rattle.table_heap.proofs.NamesLeft.{left_on, left_given, call_kept, call_begins}
use Rattle.heap_machines.proofs.OnScript.{script_step, script_done, goes_on_with, begins}
use Rattle.heap_machines.proofs.Replies.{given_after, ended_none, ended_some}
use Rattle.heap_machines.proofs.Turns.{turn_at_rest}
use Rattle.table_heap.specs.Running.{IsIdleForGood}
use Rattle.table_heap.specs.Driving.{HasNotBegun, IsDriving, HasDriven}

-- a list with one element more, where there is one
abbrev with_one : List Command → Option Command → List Command
with_one script None = script
with_one script (Some command) = script ++ command ∷ []

one_behind : (script : List Command) (found : Option Command) → slice_get (with_one script found) (length script) ≡ found
one_behind [] None = refl
one_behind [] (Some command) = refl
one_behind (command ∷ script) None = one_behind script None
one_behind (command ∷ script) (Some found_command) = one_behind script (Some found_command)

front_of : (script : List Command) (found : Option Command) → script ≡ take (length script) (with_one script found)
front_of [] None = refl
front_of [] (Some command) = refl
front_of (command ∷ script) None = ap (λ zs. command ∷ zs) (front_of script None)
front_of (command ∷ script) (Some found_command) = ap (λ zs. command ∷ zs) (front_of script (Some found_command))

makes_is_new : (command : Command) → makes_object command ≡ true → IsNew command
makes_is_new (New dst refs nums) makes_it = tt
makes_is_new _ makes_it = absurd cc

module _ {D : Type 0} (next_of : D → Option Command) (replied : D → Reply → D) (to_come : D → ℕ) where
  -- a mutator that has not begun, and its driver
  pub drives_first : (first_driver : D) (actor : Actor) → to_come first_driver < most_objects → HasNotBegun actor → IsDriving next_of replied to_come first_driver first_driver actor
  drives_first first_driver actor makings_below fresh = record {
    driven = subst (λ given_entries. IsDrivenFrom next_of replied first_driver given_entries) (sym fresh.calls) tt;
    state = sym (ap (driver_after replied first_driver) fresh.calls);
    doing = λ actor_busy. absurd (false≢true (sym actor_busy ∙ fresh.rest));
    kept = λ actor_busy. absurd (false≢true (sym actor_busy ∙ fresh.rest));
    ended = λ _ machine_gone. absurd (false≢true (sym machine_gone ∙ fresh.free));
    names = record {
      call = λ actor_busy. absurd (false≢true (sym actor_busy ∙ fresh.rest));
      few = let none_made = fresh.made in omega (arith, makings_below, none_made);
    };
  }

  module _ (first_driver driver : D) (actor : Actor) (driving : IsDriving next_of replied to_come first_driver driver actor) where
    -- the commands of its calls with the one that is next are a script
    abbrev script : List Command
    script = with_one (commands_of actor.calls) (next_of driver)

    count : length (commands_of actor.calls) ≡ length actor.calls
    count = length-map actor.calls (λ (entry : Entry). entry.command)

    next_there : slice_get script (length actor.calls) ≡ next_of driver
    next_there = ap (slice_get script) (sym count) ∙ one_behind (commands_of actor.calls) (next_of driver)

    on : IsOnScript script actor
    on = record {
      done = front_of (commands_of actor.calls) (next_of driver) ∙ ap (λ number. take number script) count;
      doing = λ busy. next_there ∙ driving.doing busy;
      ended = λ rest machine_gone. next_there ∙ driving.ended rest machine_gone;
    }

    -- where it is idle for good its driver has no command
    pub driven_done : is_mutating actor.machine ≡ true → IsIdleForGood actor.machine → HasDriven next_of replied first_driver driver actor
    driven_done role idle = record {
      rest = (script_done script actor role on (idle (slice_get script (length actor.calls)))).rest;
      driven = driving.driven;
      state = driving.state;
      ended = driving.ended (script_done script actor role on (idle (slice_get script (length actor.calls)))).rest (never_begins actor.machine idle);
    }
      where
        never_begins : (machine : Machine) → IsIdleForGood machine → may_begin machine ≡ false
        never_begins machine idle = by_may (may_begin machine) refl
          where
            by_may : (holds : Bool) → may_begin machine ≡ holds → may_begin machine ≡ false
            by_may true may_start = absurd (let same_turn = sym (turn_at_rest machine None may_start) ∙ idle None in cc)
            by_may false may_start = may_start

    module _ (config : Config) (order : Order) (got : ℕ) (role : is_mutating actor.machine ≡ true) (turn : order_for (next_of driver) actor.machine ≡ Some order) where
      -- the mutator after its turn
      abbrev then_is : Actor
      then_is = took_of pause_image config actor order got actor.machine

      on_then : IsOnScript script then_is
      on_then = script_step pause_image config script actor order got on (ap (λ command. order_for command actor.machine) next_there ∙ turn)

      -- the command that it has kept is that of its call
      kept_then : is_resting (machine_after pause_image config order got actor.machine) ≡ false → call_in (machine_after pause_image config order got actor.machine) ≡ command_by order actor.command
      kept_then machine_busy = by_may (may_begin actor.machine) refl
        where
          by_may : (holds : Bool) → may_begin actor.machine ≡ holds → call_in (machine_after pause_image config order got actor.machine) ≡ command_by order actor.command
          by_may true may_start =
              let begin = begins pause_image config (next_of driver) actor.machine order got may_start turn machine_busy in
              let obeys : next_order (next_of driver) ≡ order = same_Some (next_order (next_of driver)) order (sym (turn_at_rest actor.machine (next_of driver) may_start) ∙ turn) in
              let order_begins : order ≡ Begin begin.0 = sym obeys ∙ ap next_order begin.1 in
              ap (λ (order : Order). call_in (machine_after pause_image config order got actor.machine)) order_begins ∙ (call_begins pause_image config begin.0 got actor.machine may_start).0 ∙ ap (λ (order : Order). command_by order actor.command) (sym order_begins)
          by_may false may_start =
              let goes_on = goes_on_with (next_of driver) actor.machine order may_start turn in
              ap (λ (order : Order). call_in (machine_after pause_image config order got actor.machine)) goes_on.1 ∙ call_kept pause_image config got actor.machine ∙ driving.kept goes_on.0
              ∙ ap (λ (order : Order). command_by order actor.command) (sym goes_on.1)

      -- no reply was given
      pub drives_on : reply_of_step actor.machine ≡ None → IsDriving next_of replied to_come first_driver driver then_is
      drives_on no_reply =
          let same_entries : actor.calls ++ ended_by actor.command actor.machine ≡ actor.calls = ap (λ given_entries. actor.calls ++ given_entries) (ended_none actor.command actor.machine no_reply) ∙ append-nil actor.calls in
          let next_then : slice_get script (length then_is.calls) ≡ next_of driver = ap (λ (given_entries : List Entry). slice_get script (length given_entries)) same_entries ∙ next_there in
          record {
            driven = subst (λ given_entries. IsDrivenFrom next_of replied first_driver given_entries) (sym same_entries) driving.driven;
            state = driving.state ∙ ap (driver_after replied first_driver) (sym same_entries);
            doing = λ busy. sym next_then ∙ on_then.doing busy;
            kept = kept_then;
            ended = λ rest machine_gone. sym next_then ∙ on_then.ended rest machine_gone;
            names = left_on pause_image config (next_of driver) order got actor.machine (to_come driver) role driving.names turn no_reply;
          }

      -- its driver has taken the reply
      pub drives_noted : (reply : Reply) → reply_of_step actor.machine ≡ Some reply → to_come (replied driver reply) ≤ to_come driver
          → ((command : Command) → next_of driver ≡ Some command → IsNew command → to_come (replied driver reply) < to_come driver)
          → IsDriving next_of replied to_come first_driver (replied driver reply) then_is
      drives_noted reply gives falls pays =
          let given_reply = given_after pause_image config order got actor.machine reply gives in
          let call_ended = ended_some actor.command actor.machine reply gives in
          let more_entries : actor.calls ++ ended_by actor.command actor.machine ≡ actor.calls ++ call_ended.0 ∷ [] = ap (λ given_entries. actor.calls ++ given_entries) call_ended.1 in
          let command_follows : next_of (driver_after replied first_driver actor.calls) ≡ Some call_ended.0.command =
          ap next_of (sym driving.state) ∙ driving.doing given_reply.busy ∙ ap (λ (command : Command). Some command) (sym call_ended.2) in
          record {
            driven = subst (λ given_entries. IsDrivenFrom next_of replied first_driver given_entries) (sym more_entries) (driven_more next_of replied first_driver actor.calls call_ended.0 driving.driven command_follows);
            state = ap (λ driver_now. replied driver_now reply) driving.state ∙ ap (replied (driver_after replied first_driver actor.calls)) (sym call_ended.3)
                ∙ sym (after_more next_of replied first_driver actor.calls call_ended.0) ∙ ap (driver_after replied first_driver) (sym more_entries);
            doing = λ actor_busy. absurd (false≢true (sym actor_busy ∙ given_reply.rest));
            kept = λ actor_busy. absurd (false≢true (sym actor_busy ∙ given_reply.rest));
            ended = λ actor_rests machine_gone. absurd (false≢true (sym machine_gone ∙ given_reply.free));
            names = left_given pause_image config (next_of driver) order got actor.machine (to_come driver) role driving.names reply (to_come (replied driver reply)) gives falls
                (λ makes. pays actor.command (driving.doing given_reply.busy) (makes_is_new actor.command (sym (ap makes_object (driving.kept given_reply.busy)) ∙ makes)));
          }
