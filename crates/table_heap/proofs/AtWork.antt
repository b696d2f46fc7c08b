-- One mutator and what it has done of its script: what stays from turn to turn.
use Rattle.std.proofs.Common.{◌≡◌, ◌<◌, ℕ, Bool, true, false, List, [], ◌∷◌, ◌++◌, length, take, map, All, Option, Some, None, refl, sym, ap, ◌∙◌, subst, arith}
use Rattle.std.specs.Prelude.{slice_get, IfSome}
use Rattle.std.proofs.lemmas.Bool.{false≢true}
use Rattle.std.proofs.lemmas.List.{length-append, length-map, append-nil}
use Rattle.std.proofs.lemmas.Option.{slice_get_within}
use Rattle.heap_words.specs.declared.config.Config.{Config}
use Rattle.heap_machines.specs.Pause.{pause_image}
use Rattle.shen_graph.specs.declared.command.Command.{Command}
use Rattle.shen_graph.specs.declared.command.Reply.{Reply}
use Rattle.shen_graph.specs.declared.order.Order.{Order}
use Rattle.shen_graph.specs.History.{Entry, commands_of}
use Rattle.shen_graph.specs.History as history
use Rattle.shen_graph.specs.Valid.{IsValid, most_objects}
use Rattle.shen_graph.specs.Work.{Progress, answered}
use Rattle.step_core.specs.Actor.{Machine, Actor}
use Rattle.step_core.specs.Machines.{is_resting, may_begin, made_of_machine, took_of, machine_after}
use Rattle.heap_machines.specs.Roles.{is_mutating, reply_of_step}
use Rattle.heap_machines.specs.Scripts.{IsOnScript}
use Rattle.heap_machines.specs.Turn.{order_for}
use Rattle.heap_machines.proofs.OnScript.{script_step, script_done}
use Rattle.heap_machines.proofs.Replies.{listed, took_replies, given_after}
use Rattle.heap_machines.proofs.Names.{HasNames, names_on, names_noted, command_fits}
use Rattle.heap_machines.proofs.Turns.{turn_at_rest}
use Rattle.step_core.proofs.Machines.Roles.{turn_in_call}
use Rattle.table_heap.specs.Running.{Jobs, CanStartOn, IsAtWork, IsAtWorkOn, IsIdleForGood, HasDone}
use Rattle.table_heap.proofs.Jobs.{progress_there, script_here, replies_here}

-- a mutator that has called nothing is on any script
on_first : (script : List Command) (actor : Actor) → actor.calls ≡ [] → is_resting actor.machine ≡ true → may_begin actor.machine ≡ true → IsOnScript script actor
on_first script actor no_calls actor_rests may_start = record {
  done = ap commands_of no_calls ∙ ap (λ (given_entries : List Entry). take (length given_entries) script) (sym no_calls);
  doing = λ actor_busy. absurd (false≢true (sym actor_busy ∙ actor_rests));
  ended = λ _ machine_gone. absurd (false≢true (sym machine_gone ∙ may_start));
}

-- it is at work before it begins
pub starts : (jobs : Jobs) (number : ℕ) (actor : Actor) → CanStartOn jobs number actor → IsAtWorkOn jobs number actor
starts jobs number actor can_start =
    let progress_found = progress_there jobs number can_start.script in
    let script = script_here jobs number progress_found.0 progress_found.1 in
    let replies : progress_found.0.replies ≡ [] = sym (replies_here jobs number progress_found.0 progress_found.1) ∙ can_start.replies in
    let few_commands : length progress_found.0.script < most_objects = subst (λ given_script. length given_script < most_objects) script can_start.few in
    let none_made = can_start.made in (
      progress_found.0,
      progress_found.1,
      record {
        on = on_first progress_found.0.script actor can_start.calls can_start.rest can_start.free;
        replies = replies ∙ sym (ap history.replies_of can_start.calls);
        commands = subst (λ given_script. All IsValid given_script) script can_start.commands;
        made = omega (arith, few_commands, none_made);
      },
    )

module _ (progress : Progress) (actor : Actor) (at_work : IsAtWork progress actor) where
  -- as many replies as calls
  pub count : length progress.replies ≡ length actor.calls
  count = ap length at_work.replies ∙ length-map actor.calls (λ entry. entry.reply)

  -- the command that follows can be given
  pub next_fits : may_begin actor.machine ≡ true → IfSome (slice_get progress.script (length progress.replies)) (λ command. IsValid command × (made_of_machine actor.machine < most_objects))
  next_fits may_start = command_fits actor.machine progress.script (length progress.replies) at_work.commands at_work.made may_start

  -- it has called its whole script where it is idle for good
  pub done : is_mutating actor.machine ≡ true → IsIdleForGood actor.machine → HasDone progress.script progress.replies actor
  done role idle = record {
    whole = script_done progress.script actor role at_work.on (idle (slice_get progress.script (length actor.calls)));
    told = at_work.replies;
  }

  module _ (config : Config) (order : Order) (got : ℕ) (next_order : order_for (slice_get progress.script (length progress.replies)) actor.machine ≡ Some order) where
    -- the mutator after its turn
    abbrev then_is : Actor
    then_is = took_of pause_image config actor order got actor.machine

    -- it is on its script
    on_then : IsOnScript progress.script then_is
    on_then = script_step pause_image config progress.script actor order got at_work.on (ap (λ number. order_for (slice_get progress.script number) actor.machine) (sym count) ∙ next_order)

    -- the replies of its calls
    replies_then : map (λ entry. entry.reply) then_is.calls ≡ progress.replies ++ listed (reply_of_step actor.machine)
    replies_then = took_replies actor ∙ ap (λ given_replies. given_replies ++ listed (reply_of_step actor.machine)) (sym at_work.replies)

    -- no reply was given
    pub goes_on : reply_of_step actor.machine ≡ None → IsAtWork progress then_is
    goes_on no_reply = record {
      on = on_then;
      replies = sym (replies_then ∙ ap (λ given_reply. progress.replies ++ listed given_reply) no_reply ∙ append-nil progress.replies);
      commands = at_work.commands;
      made = names_on pause_image config order got actor.machine (length progress.script) (length progress.replies) at_work.made no_reply;
    }

    module _ (reply : Reply) (gives : reply_of_step actor.machine ≡ Some reply) where
      -- in its call there are more commands than replies
      pub more : length progress.replies < length progress.script
      more =
          let actor_busy = (given_after pause_image config order got actor.machine reply gives).busy in
          let calls_within = slice_get_within progress.script (length actor.calls) actor.command (at_work.on.doing actor_busy) in
          omega (arith, calls_within, count)

      -- the reply is noted
      pub noted : IsAtWork (answered progress reply) then_is
      noted = record {
        on = on_then;
        replies = sym (replies_then ∙ ap (λ given_reply. progress.replies ++ listed given_reply) gives);
        commands = at_work.commands;
        made = subst (λ replies. HasNames (machine_after pause_image config order got actor.machine) (length progress.script) replies) (sym (length-append progress.replies (reply ∷ [])))
            (names_noted pause_image config order got actor.machine (length progress.script) (length progress.replies) at_work.made reply gives);
      }

-- a machine that has no turn whatever follows has none by any command
pub idle_for_good : (machine : Machine) (next_command : Option Command) → order_for next_command machine ≡ None → IsIdleForGood machine
idle_for_good machine next_command idle other_command = by_may (may_begin machine) refl
  where
    by_may : (holds : Bool) → may_begin machine ≡ holds → order_for other_command machine ≡ None
    by_may true may_start = absurd (let same_turn = sym (turn_at_rest machine next_command may_start) ∙ idle in cc)
    by_may false may_not_start = turn_in_call machine other_command may_not_start ∙ sym (turn_in_call machine next_command may_not_start) ∙ idle
