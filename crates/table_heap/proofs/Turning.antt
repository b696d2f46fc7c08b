-- One turn of a machine of a bundle that makes a step.
use Rattle.std.proofs.Common.{◌≡◌, ◌≢◌, ◌<◌, ℕ, zero, suc, Bool, true, false, inl, inr, [], ◌∷◌, length, Option, Some, None, refl, sym, ap, ◌∙◌, subst, arith}
use Rattle.std.specs.Prelude.{slice_get, slice_set, ◌==◌, nat_lt, if◌then◌else◌}
use Rattle.std.proofs.lemmas.Bool.{false≢true}
use Rattle.std.proofs.lemmas.Bool.Decides.{nat_tests}
use Rattle.std.proofs.lemmas.List.{set-set}
use Rattle.heap_machines.specs.Pause.{pause_image}
use Rattle.shared_table.specs.Views.{View, machine_of}
use Rattle.shared_table.proofs.ViewsShow.{machine_of-set}
use Rattle.shen_graph.specs.declared.command.Command.{Command}
use Rattle.shen_graph.specs.declared.command.Reply.{Reply}
use Rattle.shen_graph.specs.declared.order.Order.{Order}
use Rattle.shen_graph.specs.declared.order.Order.TheVariants.{Nothing}
use Rattle.shen_graph.specs.Work.{HasScript, script_in, replies_of, next_of, answered, with_reply}
use Rattle.heap_words.specs.declared.config.Config.{Config}
use Rattle.step_core.specs.Actor.{Machine, mutating, helping, controlling, Actor}
use Rattle.step_core.specs.Machines.{answer_of, took_of, reply_in}
use Rattle.heap_machines.specs.Answer.{stepped_by, says}
use Rattle.heap_machines.specs.declared.stepped.Stepped.{Stepped}
use Rattle.heap_machines.specs.declared.stepped.Stepped.TheVariants as stepped
use Rattle.heap_machines.specs.Roles.{is_mutating, reply_of_step}
use Rattle.heap_machines.specs.Turn.{order_for}
use Rattle.heap_machines.proofs.Replies.{done_gives, other_gives, given_after}
use Rattle.heap_machines.proofs.Turns.{role_stays}
use Rattle.table_heap.specs.declared.bundle.Bundle.{Bundle}
use Rattle.table_heap.specs.State.{view_of, orders_of, machine_at, order_at}
use Rattle.table_heap.specs.Turning.{IsTurn, IsOrderFor}
use Rattle.table_heap.specs.Running.{Jobs, HasNoOrder, EachMutator, IsAtWorkOn, AreAtWork, next_for, AreSameJobs}
use Rattle.table_heap.proofs.Core.{kind_took}
use Rattle.shen_graph.proofs.Noted.{progress_other, script_kept}
use Rattle.table_heap.proofs.Jobs.{has_here, script_here, replies_here, next_here, noted_here, numbers_kept}
use Rattle.table_heap.proofs.AtWork.{goes_on, noted, more}
use Rattle.table_heap.proofs.MachineUnder.{put_there}
use Rattle.table_heap.proofs.Running.{at_number, role_at}
use Rattle.table_heap.proofs.Said.{done_by}

-- no order is pending where the one of a number was taken
no_order_after : (orders : View Order) (number : ℕ) → ((other_number : ℕ) (order : Order) → machine_of orders other_number ≡ Some order → order ≡ Nothing)
    → (other_number : ℕ) (order : Order) → machine_of (slice_set orders number (Some Nothing)) other_number ≡ Some order → order ≡ Nothing
no_order_after [] number no_orders other_number order order_there = no_orders other_number order order_there
no_order_after (first_order ∷ later_orders) zero no_orders zero order order_there = cc order_there
no_order_after (first_order ∷ later_orders) zero no_orders (suc other_number) order order_there = no_orders (suc other_number) order order_there
no_order_after (first_order ∷ later_orders) (suc number) no_orders zero order order_there = no_orders zero order order_there
no_order_after (first_order ∷ later_orders) (suc number) no_orders (suc other_number) order order_there = no_order_after later_orders number (λ earlier_number. no_orders (suc earlier_number)) other_number order order_there

-- what holds of each mutator where one machine has gone on
pub each_after : (view new : View Actor) (number : ℕ) (old_actor next_actor : Actor) (P Q : ℕ → Actor → Type 0) → machine_of view number ≡ Some old_actor → new ≡ slice_set view number (Some next_actor) → EachMutator view P
    → (is_mutating next_actor.machine ≡ true → Q number next_actor) → ((asked_number : ℕ) (asked_actor : Actor) → asked_number ≢ number → machine_of view asked_number ≡ Some asked_actor → is_mutating asked_actor.machine ≡ true → P asked_number asked_actor → Q asked_number asked_actor) → EachMutator new Q
each_after view new number actor other_actor P Q actor_there new_is each_before one_after others_hold asked_number asked_actor asked_there role =
    by_number (asked_number == number) refl (sym (machine_of-set view number actor (Some other_actor) actor_there asked_number) ∙ ap (λ asked_view. machine_of asked_view asked_number) (sym new_is) ∙ asked_there)
  where
    by_number : (holds : Bool) → (asked_number == number) ≡ holds → (if asked_number == number then Some other_actor else machine_of view asked_number) ≡ Some asked_actor → Q asked_number asked_actor
    by_number true number_test actor_found =
        let same_number : asked_number ≡ number = grind (arith, nat_tests) in
        let same_actor : other_actor ≡ asked_actor = cc (rw number_test at actor_found) in
        subst (λ some_actor. Q asked_number some_actor) same_actor (subst (λ some_number. Q some_number other_actor) (sym same_number) (one_after (ap (λ some_actor. is_mutating some_actor.machine) same_actor ∙ role)))
    by_number false number_test actor_found =
        let numbers_differ : asked_number ≢ number = grind (arith, nat_tests) in
        let there_before : machine_of view asked_number ≡ Some asked_actor = rw number_test at actor_found in
        others_hold asked_number asked_actor numbers_differ there_before role (each_before asked_number asked_actor there_before role)

-- a mutator is given no hint
turn_of : (config : Config) (next : Option Command) (machine : Machine) (order : Order) → is_mutating machine ≡ true → IsOrderFor config next machine order → order_for next machine ≡ Some order
turn_of config next machine order role (inl turn) = turn
turn_of config next (mutating mutator) order role (inr hinted) = absurd (let takes = hinted.0 in cc (takes))
turn_of config next (helping helper) order role (inr hinted) = absurd (cc (role))
turn_of config next (controlling control) order role (inr hinted) = absurd (cc (role))

-- where another command would lead to the same order, the turn is one by that command
order_as : (config : Config) (next other_command : Option Command) (machine : Machine) (order : Order) → order_for next machine ≡ order_for other_command machine → IsOrderFor config next machine order → IsOrderFor config other_command machine order
order_as config next other_command machine order same_order (inl turn) = inl (sym same_order ∙ turn)
order_as config next other_command machine order same_order (inr hinted) = inr hinted

pub turn_as : (old new : Bundle) (next other_command : Option Command) (number : ℕ) (said : Stepped) → order_for next (machine_at old number) ≡ order_for other_command (machine_at old number)
    → IsTurn old new next number said → IsTurn old new other_command number said
turn_as old new next other_command number said same_order turn_made = record {
  ordered = turn_made.ordered;
  unmoved = turn_made.unmoved;
  turn = order_as old.config next other_command (machine_at old number) (order_at turn_made.ordered number) same_order turn_made.turn;
  orders = turn_made.orders;
  step = turn_made.step;
}

module _ (old new : Bundle) (next : Option Command) (number : ℕ) (said : Stepped) (turn_made : IsTurn old new next number said) where
  -- the bundle, where the machine has its order
  abbrev pub mid : Bundle
  mid = turn_made.ordered

  -- the machine, before and after
  abbrev pub was : Actor
  was = turn_made.step.took.machine

  abbrev pub order : Order
  order = order_at mid number

  abbrev pub got : ℕ
  got = turn_made.step.got

  abbrev pub then_is : Actor
  then_is = took_of pause_image mid.config was order got was.machine

  pub here : machine_of (view_of old) number ≡ Some was
  here = ap (λ asked_view. machine_of asked_view number) (sym turn_made.unmoved.view) ∙ turn_made.step.took.here

  pub view_is : view_of new ≡ slice_set (view_of old) number (Some then_is)
  view_is =
      turn_made.step.took.view ∙ ap (λ actor. slice_set (view_of mid) number (Some actor)) (kind_took mid.config was order got)
      ∙ ap (λ asked_view. slice_set asked_view number (Some then_is)) turn_made.unmoved.view

  there : machine_of (view_of new) number ≡ Some then_is
  there = ap (λ asked_view. machine_of asked_view number) view_is ∙ put_there (λ (actor : Actor). actor) (view_of old) number was then_is here

  -- no order is pending
  pub no_order : HasNoOrder old → HasNoOrder new
  no_order no_order_before asked_number asked_order order_there =
      no_order_after (orders_of old) number no_order_before asked_number asked_order
      (ap (λ asked_view. machine_of asked_view asked_number) (sym (turn_made.step.orders ∙ ap (λ asked_view. slice_set asked_view number (Some Nothing)) turn_made.orders ∙ set-set (orders_of old) number _ _)) ∙ order_there)

  -- that of a mutator is by the command that would follow
  pub turn_was : is_mutating was.machine ≡ true → order_for next was.machine ≡ Some order
  turn_was role = ap (order_for next) (sym is) ∙ turn_of old.config next (machine_at old number) order (ap is_mutating is ∙ role) turn_made.turn
    where
      is : machine_at old number ≡ was.machine
      is = at_number old number was here

  -- only a mutator has a command that follows
  below : is_mutating was.machine ≡ true → nat_lt number old.config.mutators ≡ true
  below role = sym (role_at old number was here) ∙ role

  pub role_then : is_mutating then_is.machine ≡ is_mutating was.machine
  role_then = role_stays pause_image mid.config order got was.machine

  -- what its step said
  said_is : said ≡ stepped_by (answer_of mid.config (order_at mid number) was.machine got)
  said_is = turn_made.step.said_is ∙ ap (λ machine. says mid.config (order_at mid number) machine got) (at_number mid number was turn_made.step.took.here)

  -- a step that is not done gives no reply
  pub none_given : (said ≡ stepped.Done → ⊥) → reply_of_step was.machine ≡ None
  none_given not_done = other_gives mid.config (order_at mid number) was.machine got (λ said_done. not_done (said_is ∙ ap stepped_by said_done))

  -- a step that is done gives one
  pub some_given : said ≡ stepped.Done → (reply : Reply) × (reply_of_step was.machine ≡ Some reply)
  some_given said_done = done_gives mid.config (order_at mid number) was.machine got (done_by (answer_of mid.config (order_at mid number) was.machine got) (sym said_is ∙ said_done))

  -- a machine that gives a reply is a mutator
  pub role_given : (reply : Reply) → reply_of_step was.machine ≡ Some reply → is_mutating was.machine ≡ true
  role_given reply gives = (given_after pause_image mid.config order got was.machine reply gives).role

  -- the reply that is at hand is the one that the step gave
  pub reply_given : (reply : Reply) → said ≡ stepped.Done → reply_in (machine_at new number) ≡ Some reply → reply_of_step was.machine ≡ Some reply
  reply_given reply said_done at_hand =
      let reply_known = some_given said_done in
      let replied = (given_after pause_image mid.config order got was.machine reply_known.0 reply_known.1).replied in
      reply_known.1 ∙ sym replied ∙ ap reply_in (sym (at_number new number then_is there)) ∙ at_hand

  -- where the command that would follow is that of its script
  module _ (jobs : Jobs) (next_is : next ≡ next_for old.config jobs number) (work_before : AreAtWork old jobs) where
    module _ (role : is_mutating was.machine ≡ true) where
      abbrev job : IsAtWorkOn jobs number was
      job = work_before.mutators number was here role

      turn_is : order_for (slice_get job.0.script (length job.0.replies)) was.machine ≡ Some order
      turn_is =
          let same_next : next ≡ slice_get job.0.script (length job.0.replies) = next_is ∙ ap (λ test. if test then next_of jobs number else None) (below role) ∙ next_here jobs number job.0 job.1 in
          ap (λ asked_order. order_for asked_order was.machine) (sym same_next) ∙ turn_was role

    -- the work is as it was
    pub turned_on : (said ≡ stepped.Done → ⊥) → AreAtWork new jobs
    turned_on not_done = record {
      orders = no_order work_before.orders;
      mutators = each_after (view_of old) (view_of new) number was then_is (IsAtWorkOn jobs) (IsAtWorkOn jobs) here view_is work_before.mutators
          (λ mutates.
          let role = sym role_then ∙ mutates in
          ((job role).0, (job role).1, goes_on (job role).0 was (job role).2 mid.config order got (turn_is role) (none_given not_done)))
          (λ other_number actor different actor_there role work_at. work_at);
    }

    -- it has a script, and the reply can be noted
    pub can_tell : said ≡ stepped.Done → HasScript jobs number × (length (replies_of jobs number) < length (script_in jobs number))
    can_tell said_done =
        let reply_known = some_given said_done in
        let role = role_given reply_known.0 reply_known.1 in
        let found_job = job role in (
          has_here jobs number found_job.0 found_job.1,
          subst (λ some_replies. length some_replies < length (script_in jobs number)) (sym (replies_here jobs number found_job.0 found_job.1))
              (subst (λ some_commands. length found_job.0.replies < length some_commands) (sym (script_here jobs number found_job.0 found_job.1))
              (more found_job.0 was found_job.2 mid.config order got (turn_is role) reply_known.0 reply_known.1)),
        )

    module _ (reply : Reply) (said_done : said ≡ stepped.Done) (at_hand : reply_in (machine_at new number) ≡ Some reply) where
      abbrev gives : reply_of_step was.machine ≡ Some reply
      gives = reply_given reply said_done at_hand

      abbrev role : is_mutating was.machine ≡ true
      role = role_given reply gives

      -- the reply is noted
      pub turned_noted : AreAtWork new (with_reply jobs number reply)
      turned_noted = record {
        orders = no_order work_before.orders;
        mutators = each_after (view_of old) (view_of new) number was then_is (IsAtWorkOn jobs) (IsAtWorkOn (with_reply jobs number reply)) here view_is work_before.mutators
            (λ mutates. (
              answered (job role).0 reply,
              noted_here jobs number (job role).0 (job role).1 reply,
              noted (job role).0 was (job role).2 mid.config order got (turn_is role) reply gives,
            ))
            (λ other_number actor different actor_there role work_at. (work_at.0, progress_other jobs number reply other_number different ∙ work_at.1, work_at.2));
      }

      -- and it is one of the bundle's mutators to whom it belongs
      pub jobs_noted : AreSameJobs (view_of old) jobs (with_reply jobs number reply)
      jobs_noted =
          let has_script = (can_tell said_done).0 in
          record {
            scripts = λ asked_number. script_kept jobs number reply asked_number has_script;
            numbers = λ asked_number. numbers_kept jobs number reply asked_number has_script;
            others = λ asked_number none_there. progress_other jobs number reply asked_number (λ same_number. false≢true (sym (none_there was (ap (machine_of (view_of old)) same_number ∙ here)) ∙ role));
          }
