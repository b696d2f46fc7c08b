-- After a turn: the machines, the orders and the work.
use Rattle.std.proofs.Common.{◌≡◌, ◌≢◌, ◌<◌, ⊎_elim, ℕ, Bool, true, false, List, [], ◌∷◌, ◌++◌, length, get_or, map, All, Option, Some, None, refl, sym, ap, ◌∙◌, subst, arith}
use Rattle.heap_machines.specs.Pause.{pause_image}
use Rattle.std.specs.Prelude.{◌+◌, slice_get, slice_set, slice_index, nat_lt, if◌then◌else◌}
use Rattle.std.proofs.lemmas.List.{length-append, get_or-set_same, get_or-set_other, append-nil, set-set}
use Rattle.std.proofs.lemmas.List.Elements.{All-set}
use Rattle.std.proofs.lemmas.Option.{same_Some, slice_get_within}
use Rattle.std.proofs.lemmas.Bool.{false≢true, cases_eq, ltb-true, lt-ltb}
use Rattle.heap_words.proofs.Lists.{slice_get-set_same}
use Rattle.heap_words.specs.declared.config.Config.{Config}
use Rattle.heap_words.specs.declared.access.Took.{Took}
use Rattle.heap_words.specs.declared.access.Took.TheVariants as took
use Rattle.heap_words.specs.Access.{table_index}
use Rattle.heap_words.specs.Steps.{Stage, IsEvent, moved, act}
use Rattle.heap_words.proofs.Laws.{act-event, machines_other}
use Rattle.shen_graph.specs.declared.command.Reply.{Reply}
use Rattle.shen_graph.specs.Work as work
use Rattle.shen_graph.proofs.Noted.{script_kept, replies_same, replies_other, script_stays}
use Rattle.shen_graph.specs.declared.order.Order.{Order}
use Rattle.shen_graph.specs.declared.order.Order.TheVariants.{Nothing}
use Rattle.heap_machines.specs.declared.stepped.Stepped.{Stepped}
use Rattle.heap_machines.specs.declared.stepped.Stepped.TheVariants as stepped
use Rattle.heap_machines.specs.Answer.{stepped_of, stepped_by, says}
use Rattle.step_core.proofs.Machines.Roles.{says_some}
use Rattle.heap_machines.proofs.Replies.{listed, took_replies, done_gives, other_gives, given_after}
use Rattle.heap_machines.proofs.Names.{HasNames, names_on, names_noted}
use Rattle.heap_machines.proofs.OnScript.{begins, goes_on_with}
use Rattle.step_core.specs.Actor.{Machine, Actor}
use Rattle.heap_machines.specs.Shown.{no_machine}
use Rattle.step_core.specs.Machines.{takes_of, plan_of, answer_of, machine_after, kind, is_again, again_by, is_resting, may_begin, reply_in, made_of_machine, at_hand_of}
use Rattle.heap_machines.specs.Roles.{is_mutating, reply_of_step}
use Rattle.step_core.specs.Schedule.{Scripts, waits, waits_of, waits_in}
use Rattle.shen_core.specs.declared.plain.Plain.{Plain}
use Rattle.shen_core.specs.Runs.{WordsShow, event}
use Rattle.shen_core.specs.Progress.{Jobs, Tells, CanRun, IsTurn, IsNextTurn, Turned, IsMovedOn, HasTurned, next_for}
use Rattle.shen_core.specs.State.{config_of, words_of, orders_of, machines_of, machine_at, order_at, has_turn, next_machine, IsStep}
use Rattle.shen_graph.specs.Valid.{IsValid, most_objects}
use Rattle.shen_core.proofs.Events.{shown_actor}
use Rattle.shen_core.proofs.Turns.{machine_within}

-- no order is pending after the turn
pub orders_after : (old mid new : List Order) (number : ℕ) (order : Order) → mid ≡ slice_set old number order → new ≡ slice_set mid number Nothing → All (λ some_order. some_order ≡ Nothing) old → All (λ some_order. some_order ≡ Nothing) new
orders_after old mid new number order mid_is new_is no_orders =
    subst (λ order_list. All (λ some_order. some_order ≡ Nothing) order_list) (sym (new_is ∙ ap (λ order_list. slice_set order_list number Nothing) mid_is ∙ set-set old number order Nothing))
    (All-set (λ some_order. some_order ≡ Nothing) old number Nothing refl no_orders)

-- the replies of the machine's actor after its event
pub acted_replies : (config : Config) (stage : Stage Actor) (number : ℕ) (order : Order) (actor : Actor) (machine : Machine) → slice_get stage.machines number ≡ Some actor → actor.machine ≡ machine → takes_of machine order ≡ true
    → (new_actor : Actor) → slice_get (act (kind pause_image config) stage (event number order)).machines number ≡ Some new_actor → map (λ entry. entry.reply) new_actor.calls ≡ map (λ entry. entry.reply) actor.calls ++ listed (reply_of_step machine)
unfolding kind
acted_replies config stage number order actor machine actor_there shown_machine takes new_actor new_there =
    let order_taken : takes_of actor.machine order ≡ true = ap (λ value. takes_of value order) shown_machine ∙ takes in
    let made_event : IsEvent (kind pause_image config) stage (event number order) actor = record { here = actor_there; takes = order_taken } in
    let found_machine = ap (λ value. slice_get value.machines number) (act-event (kind pause_image config) stage (event number order) actor made_event) ∙ slice_get-set_same stage.machines number actor _ actor_there in
    let same_actor = same_Some _ new_actor (sym found_machine ∙ new_there) in
    ap (λ value. map (λ entry. entry.reply) value.calls) (sym same_actor)
    ∙ took_replies actor
    ∙ ap (λ value. map (λ entry. entry.reply) actor.calls ++ listed (reply_of_step value)) shown_machine

-- the work tells the replies after an event that gives none
pub tells_on : (config : Config) (words : List ℕ) (machines : List Machine) (jobs : Jobs) (number : ℕ) (machine : Machine) (order : Order) (scripts : Scripts) (stage : Stage Actor)
    → WordsShow words machines stage → Tells config scripts jobs stage → slice_get machines number ≡ Some machine → takes_of machine order ≡ true → reply_of_step machine ≡ None
    → Tells config scripts jobs (act (kind pause_image config) stage (event number order))
tells_on config words machines jobs number machine order scripts stage shows tells machine_there takes no_reply = record {
  scripts_are = tells.scripts_are;
  replies = λ thread later_actor thread_below actor_there. ⊎_elim
      (λ (same_number : thread ≡ number).
      let found_actor = shown_actor words machines stage number machine shows machine_there in
      let there_now : slice_get (act (kind pause_image config) stage (event number order)).machines number ≡ Some later_actor = ap (λ some_number. slice_get (act (kind pause_image config) stage (event number order)).machines some_number) (sym same_number) ∙ actor_there in
      let actor_before : slice_get stage.machines thread ≡ Some found_actor.0 = ap (slice_get stage.machines) same_number ∙ found_actor.1 in
      tells.replies thread found_actor.0 thread_below actor_before
      ∙ sym (acted_replies config stage number order found_actor.0 machine found_actor.1 found_actor.2 takes later_actor there_now ∙ ap (λ given_reply. map (λ entry. entry.reply) found_actor.0.calls ++ listed given_reply) no_reply ∙ append-nil _))
      (λ (other_number : thread ≡ number → ⊥). tells.replies thread later_actor thread_below (sym (machines_other (kind pause_image config) stage (event number order) thread other_number) ∙ actor_there))
      (cases_eq thread number);
}

-- and with the reply noted after one that gives it
pub tells_noted : (config : Config) (words : List ℕ) (machines : List Machine) (jobs : Jobs) (number : ℕ) (machine : Machine) (order : Order) (reply : Reply) (scripts : Scripts) (stage : Stage Actor)
    → WordsShow words machines stage → Tells config scripts jobs stage → slice_get machines number ≡ Some machine → takes_of machine order ≡ true → reply_of_step machine ≡ Some reply → work.HasScript jobs number
    → Tells config scripts (work.with_reply jobs number reply) (act (kind pause_image config) stage (event number order))
tells_noted config words machines jobs number machine order reply scripts stage shows tells machine_there takes gives has_script = record {
  scripts_are = λ thread thread_below. script_kept jobs number reply thread has_script ∙ tells.scripts_are thread thread_below;
  replies = λ thread later_actor thread_below actor_there. ⊎_elim
      (λ (same_number : thread ≡ number).
      let found_actor = shown_actor words machines stage number machine shows machine_there in
      let there_now : slice_get (act (kind pause_image config) stage (event number order)).machines number ≡ Some later_actor = ap (λ some_number. slice_get (act (kind pause_image config) stage (event number order)).machines some_number) (sym same_number) ∙ actor_there in
      let actor_before : slice_get stage.machines thread ≡ Some found_actor.0 = ap (slice_get stage.machines) same_number ∙ found_actor.1 in
      ap (work.replies_of (work.with_reply jobs number reply)) same_number ∙ replies_same jobs number reply has_script
      ∙ ap (λ reply_list. reply_list ++ reply ∷ []) (ap (work.replies_of jobs) (sym same_number) ∙ tells.replies thread found_actor.0 thread_below actor_before)
      ∙ sym (acted_replies config stage number order found_actor.0 machine found_actor.1 found_actor.2 takes later_actor there_now ∙ ap (λ given_reply. map (λ entry. entry.reply) found_actor.0.calls ++ listed given_reply) gives))
      (λ (other_number : thread ≡ number → ⊥). replies_other jobs number reply thread other_number ∙ tells.replies thread later_actor thread_below (sym (machines_other (kind pause_image config) stage (event number order) thread other_number) ∙ actor_there))
      (cases_eq thread number);
}

-- whether the next step of a machine that memory shows says that it waits
pub shown_waits : (config : Config) (words : List ℕ) (machines : List Machine) (number : ℕ) (machine : Machine) (order : Order) (stage : Stage Actor) → WordsShow words machines stage → slice_get machines number ≡ Some machine
    → waits config stage (event number order) ≡ again_by (answer_of config order machine (slice_index words (table_index (plan_of config order machine))))
shown_waits config words machines number machine order stage shows machine_there =
    let found_actor = shown_actor words machines stage number machine shows machine_there in
    ap (waits_of config stage order) found_actor.1 ∙ ap (waits_in stage config order) found_actor.2
    ∙ ap (λ word_list. again_by (answer_of config order machine (slice_index word_list (table_index (plan_of config order machine))))) shows.words_are

-- what a turn has done, by what its step said
pub turned_from : (config : Config) (scripts : Scripts) (stage : Stage Actor) (number : ℕ) (plain : Plain) (jobs : Jobs) (said : Took) → IsMovedOn config scripts stage number plain jobs (is_again said) → Turned config scripts stage number plain jobs (stepped_of said)
turned_from config scripts stage number plain jobs took.More moved = moved
turned_from config scripts stage number plain jobs took.Again moved = moved
turned_from config scripts stage number plain jobs took.Done moved = moved

-- a step that ends a call says so
done_of : (found : Option Took) → stepped_by found ≡ stepped.Done → found ≡ Some took.Done
done_of None says_done = absurd cc
done_of (Some took.More) says_done = absurd cc
done_of (Some took.Again) says_done = absurd cc
done_of (Some took.Done) says_done = refl

-- One `Plain` and its work after a turn of a machine in another.
pub record IsAfter (plain other_plain : Plain) (jobs later : Jobs) (number : ℕ) (next : Machine) : Type 0 where
  pub config : config_of other_plain ≡ config_of plain
  pub orders : All (λ o. o ≡ Nothing) (orders_of other_plain)
  pub machines : machines_of other_plain ≡ slice_set (machines_of plain) number next
  pub within : number < length (machines_of plain)
  pub made : number < (config_of plain).mutators → made_of_machine next + length (work.script_in later number) < most_objects + (length (work.replies_of later number) + at_hand_of next)
  pub has : (t : ℕ) → work.HasScript jobs t → work.HasScript later t
  pub script : (t : ℕ) → work.script_in later t ≡ work.script_in jobs t
  pub other : (t : ℕ) → t ≢ number → work.replies_of later t ≡ work.replies_of jobs t
  pub busy : number < (config_of plain).mutators → is_resting next ≡ false → length (work.replies_of later number) < length (work.script_in later number)

module _ (plain next_plain : Plain) (jobs later : Jobs) (number : ℕ) (new_machine : Machine) (turn_after : IsAfter plain next_plain jobs later number new_machine) where
  -- the machine of the turn is the next one
  at_number : machine_at next_plain number ≡ new_machine
  at_number = ap (λ machine_list. get_or machine_list number no_machine) turn_after.machines ∙ get_or-set_same (machines_of plain) number new_machine no_machine turn_after.within

  -- all others stay
  at_other : (index : ℕ) → index ≢ number → machine_at next_plain index ≡ machine_at plain index
  at_other index other_number = ap (λ machine_list. get_or machine_list index no_machine) turn_after.machines ∙ get_or-set_other (machines_of plain) number index new_machine no_machine other_number

  -- the heap can go on with the work
  pub can_run_after : CanRun plain jobs → CanRun next_plain later
  can_run_after ran_before = record {
    orders = turn_after.orders;
    jobs_are = λ thread thread_below. turn_after.has thread (ran_before.jobs_are thread (subst (λ some_config. thread < some_config.mutators) turn_after.config thread_below));
    commands = λ thread thread_below. subst (λ script. All IsValid script) (sym (turn_after.script thread))
        (ran_before.commands thread (subst (λ some_config. thread < some_config.mutators) turn_after.config thread_below));
    busy = λ index thread_below mutator_busy. ⊎_elim
        (λ (same_number : index ≡ number). subst (λ some_number. length (work.replies_of later some_number) < length (work.script_in later some_number)) (sym same_number)
        (turn_after.busy (subst (λ some_number. some_number < (config_of plain).mutators) same_number (subst (λ some_config. index < some_config.mutators) turn_after.config thread_below)) (ap is_resting (sym at_number) ∙ ap (λ some_number. is_resting (machine_at next_plain some_number)) (sym same_number) ∙ mutator_busy)))
        (λ (other_number : index ≡ number → ⊥).
        let replies = ap length (turn_after.other index other_number) in
        let script = ap length (turn_after.script index) in
        let before_now = ran_before.busy index (subst (λ some_config. index < some_config.mutators) turn_after.config thread_below) (ap is_resting (sym (at_other index other_number)) ∙ mutator_busy) in
        omega arith)
        (cases_eq index number);
    made = λ index thread_below. ⊎_elim
        (λ (same_number : index ≡ number).
        let is_new : machine_at next_plain index ≡ new_machine = ap (machine_at next_plain) same_number ∙ at_number in
        rw (is_new, same_number) (turn_after.made (subst (λ some_number. some_number < (config_of plain).mutators) same_number (subst (λ some_config. index < some_config.mutators) turn_after.config thread_below))))
        (λ (other_number : index ≡ number → ⊥).
        rw (at_other index other_number, turn_after.script index, turn_after.other index other_number) (ran_before.made index (subst (λ some_config. index < some_config.mutators) turn_after.config thread_below)))
        (cases_eq index number);
  }

-- A `Plain`, with the order for a machine, and after that machine's step, which said so.
pub record IsStepped (plain mid other_plain : Plain) (jobs : Jobs) (number : ℕ) (said : Stepped) : Type 0 where
  pub within : number < length (machines_of plain)
  pub mid_words : words_of mid ≡ words_of plain
  pub mid_machines : machines_of mid ≡ machines_of plain
  pub mid_config : config_of mid ≡ config_of plain
  pub mid_orders : orders_of mid ≡ slice_set (orders_of plain) number (order_at mid number)
  pub role : is_mutating (machine_at plain number) ≡ nat_lt number (config_of plain).mutators
  pub turn : IsTurn plain jobs number true (order_at mid number)
  pub next : IsNextTurn plain jobs number true (order_at mid number)
  pub has : has_turn mid number ≡ true
  pub event : IsStep mid other_plain number
  pub says : said ≡ says (config_of mid) (order_at mid number) (machine_at mid number) (slice_index (words_of mid) (table_index (plan_of (config_of mid) (order_at mid number) (machine_at mid number))))
  pub machines : machines_of other_plain ≡ slice_set (machines_of mid) number (next_machine mid number)
  pub orders : orders_of other_plain ≡ slice_set (orders_of mid) number Nothing
  pub config : config_of other_plain ≡ config_of mid

module _ (plain mid next_plain : Plain) (jobs : Jobs) (number : ℕ) (said : Stepped) (facts : IsStepped plain mid next_plain jobs number said) where
  -- the order changes nothing of the machine
  same_machine : machine_at mid number ≡ machine_at plain number
  same_machine = ap (λ machine_list. get_or machine_list number no_machine) facts.mid_machines

  -- what its access finds
  abbrev got : ℕ
  got = slice_index (words_of mid) (table_index (plan_of (config_of mid) (order_at mid number) (machine_at mid number)))

  -- a machine that gives a reply is a mutator, by its number
  pub below_now : (reply : Reply) → reply_of_step (machine_at mid number) ≡ Some reply → number < (config_of plain).mutators
  below_now reply gives =
      ltb-true number (config_of plain).mutators
      (sym facts.role ∙ ap is_mutating (sym same_machine) ∙ (given_after pause_image (config_of mid) (order_at mid number) got (machine_at mid number) reply gives).role)

  -- the heap can go on with work in which others stay
  after_turn : (later : Jobs) → CanRun plain jobs → ((thread : ℕ) → work.HasScript jobs thread → work.HasScript later thread) → ((thread : ℕ) → work.script_in later thread ≡ work.script_in jobs thread) → ((thread : ℕ) → thread ≢ number → work.replies_of later thread ≡ work.replies_of jobs thread)
      → (number < (config_of plain).mutators → is_resting (next_machine mid number) ≡ false → length (work.replies_of later number) < length (work.script_in later number))
      → (number < (config_of plain).mutators → made_of_machine (next_machine mid number) + length (work.script_in later number) < most_objects + (length (work.replies_of later number) + at_hand_of (next_machine mid number)))
      → IsAfter plain next_plain jobs later number (next_machine mid number)
  after_turn later ran_before has_scripts script others_same busy_replies made_few = record {
    config = facts.config ∙ facts.mid_config;
    orders = orders_after (orders_of plain) (orders_of mid) (orders_of next_plain) number (order_at mid number) facts.mid_orders facts.orders ran_before.orders;
    machines = facts.machines ∙ ap (λ machine_list. slice_set machine_list number (next_machine mid number)) facts.mid_machines;
    within = facts.within;
    made = made_few;
    has = has_scripts;
    script = script;
    other = others_same;
    busy = busy_replies;
  }

  -- in a call there are more commands than replies
  more_now : CanRun plain jobs → number < (config_of plain).mutators → is_resting (next_machine mid number) ≡ false → length (work.replies_of jobs number) < length (work.script_in jobs number)
  more_now ran_before mutator_below machine_busy = by_may (may_begin (machine_at plain number)) refl
    where
      by_may : (holds : Bool) → may_begin (machine_at plain number) ≡ holds → length (work.replies_of jobs number) < length (work.script_in jobs number)
      by_may false cannot_begin = ran_before.busy number mutator_below (goes_on_with (next_for (config_of plain) jobs number) (machine_at plain number) (order_at mid number) cannot_begin facts.next).0
      by_may true can_begin =
          let call_begun = begins pause_image (config_of mid) (next_for (config_of plain) jobs number) (machine_at plain number) (order_at mid number) got can_begin facts.next
          (ap (λ some_machine. is_resting (machine_after pause_image (config_of mid) (order_at mid number) got some_machine)) (sym same_machine) ∙ machine_busy) in
          slice_get_within (work.script_in jobs number) (length (work.replies_of jobs number)) call_begun.0 (ap (λ holds. if holds then work.next_of jobs number else None) (sym (lt-ltb number (config_of plain).mutators mutator_below)) ∙ call_begun.1)

  -- the work is as it was
  pub can_run_on : reply_of_step (machine_at mid number) ≡ None → CanRun plain jobs → CanRun next_plain jobs
  can_run_on no_reply ran_before =
      can_run_after plain next_plain jobs jobs number (next_machine mid number)
      (after_turn jobs ran_before (λ thread has_script. has_script) (λ thread. refl) (λ thread other_number. refl) (more_now ran_before)
      (λ mutator_below.
      names_on pause_image (config_of mid) (order_at mid number) got (machine_at mid number) (length (work.script_in jobs number)) (length (work.replies_of jobs number))
      (subst (λ machine. HasNames machine (length (work.script_in jobs number)) (length (work.replies_of jobs number))) (sym same_machine) (ran_before.made number mutator_below)) no_reply)) ran_before

  -- the reply is noted
  pub can_run_noted : (reply : Reply) → reply_of_step (machine_at mid number) ≡ Some reply → CanRun plain jobs → CanRun next_plain (work.with_reply jobs number reply)
  can_run_noted reply gives ran_before =
      let below_it = below_now reply gives in
      let has_script = ran_before.jobs_are number below_it in
      let step = given_after pause_image (config_of mid) (order_at mid number) got (machine_at mid number) reply gives in
      let names_now = subst (λ machine. HasNames machine (length (work.script_in jobs number)) (length (work.replies_of jobs number))) (sym same_machine) (ran_before.made number below_it) in
      let names = names_noted pause_image (config_of mid) (order_at mid number) got (machine_at mid number) (length (work.script_in jobs number)) (length (work.replies_of jobs number)) names_now reply gives in
      let script : length (work.script_in (work.with_reply jobs number reply) number) ≡ length (work.script_in jobs number) = ap length (script_kept jobs number reply number has_script) in
      let replies : length (work.replies_of (work.with_reply jobs number reply) number) ≡ length (work.replies_of jobs number) + 1 = ap length (replies_same jobs number reply has_script) ∙ length-append (work.replies_of jobs number) (reply ∷ []) in
      can_run_after plain next_plain jobs (work.with_reply jobs number reply) number (next_machine mid number)
      (after_turn (work.with_reply jobs number reply) ran_before (λ thread had_script. script_stays jobs number reply thread has_script had_script) (λ thread. script_kept jobs number reply thread has_script) (λ thread other_number. replies_other jobs number reply thread other_number)
      (λ mutator_below mutator_busy. absurd (false≢true (sym mutator_busy ∙ step.rest)))
      (λ mutator_below. omega (arith, names, script, replies))) ran_before

  -- the order changes nothing that is shown
  shows_mid : (stage : Stage Actor) → WordsShow (words_of plain) (machines_of plain) stage → WordsShow (words_of mid) (machines_of mid) stage
  shows_mid stage shows = record { words_are = shows.words_are ∙ sym facts.mid_words; machines_are = shows.machines_are ∙ sym facts.mid_machines }

  -- the machine is there
  pub here_mid : slice_get (machines_of mid) number ≡ Some (machine_at mid number)
  here_mid = machine_within (machines_of mid) number (subst (λ machine_list. number < length machine_list) (sym facts.mid_machines) facts.within)

  -- what the step has done, where the work now tells the stage after it
  pub has_turned : (later : Jobs) → ((scripts : Scripts) (stage : Stage Actor) → WordsShow (words_of mid) (machines_of mid) stage → Tells (config_of plain) scripts jobs stage → Tells (config_of plain) scripts later (act (kind pause_image (config_of plain)) stage (event number (order_at mid number)))) → HasTurned plain jobs number next_plain later said
  has_turned later tells_later scripts stage shows tells =
      let found_answer = says_some (config_of mid) (machine_at mid number) (order_at mid number) got facts.has in
      let said_is : said ≡ stepped_of found_answer.0 = facts.says ∙ ap stepped_by found_answer.1 in
      subst (λ some_reply. Turned (config_of plain) scripts stage number next_plain later some_reply) (sym said_is)
      (turned_from (config_of plain) scripts stage number next_plain later found_answer.0
      (record {
        event = event number (order_at mid number);
        is = facts.turn scripts stage shows tells;
        waits_is = shown_waits (config_of plain) (words_of mid) (machines_of mid) number (machine_at mid number) (order_at mid number) stage (shows_mid stage shows) here_mid
            ∙ ap (λ some_config. again_by (answer_of some_config (order_at mid number) (machine_at mid number) (slice_index (words_of mid) (table_index (plan_of some_config (order_at mid number) (machine_at mid number)))))) (sym facts.mid_config)
            ∙ ap again_by found_answer.1;
        shows = subst (λ some_config. WordsShow (words_of next_plain) (machines_of next_plain) (act (kind pause_image some_config) stage (event number (order_at mid number)))) facts.mid_config (facts.event.acts stage (shows_mid stage shows));
        tells = tells_later scripts stage (shows_mid stage shows) tells;
      }))

  -- no reply is given
  pub turned_on : reply_of_step (machine_at mid number) ≡ None → HasTurned plain jobs number next_plain jobs said
  turned_on no_reply = has_turned jobs (λ scripts stage shows tells.
      tells_on (config_of plain) (words_of mid) (machines_of mid) jobs number (machine_at mid number) (order_at mid number) scripts stage shows tells here_mid facts.has no_reply)

  -- a reply is given, and noted
  pub turned_noted : (reply : Reply) → reply_of_step (machine_at mid number) ≡ Some reply → work.HasScript jobs number → HasTurned plain jobs number next_plain (work.with_reply jobs number reply) said
  turned_noted reply gives has_script = has_turned (work.with_reply jobs number reply) (λ scripts stage shows tells.
      tells_noted (config_of plain) (words_of mid) (machines_of mid) jobs number (machine_at mid number) (order_at mid number) reply scripts stage shows tells here_mid facts.has gives has_script)

  -- a step that is not done gives no reply
  pub none_given : (said ≡ stepped.Done → ⊥) → reply_of_step (machine_at mid number) ≡ None
  none_given not_done = other_gives (config_of mid) (order_at mid number) (machine_at mid number) got (λ step_done. not_done (facts.says ∙ ap stepped_by step_done))

  -- a step that is done gives one
  some_given : said ≡ stepped.Done → (reply : Reply) × (reply_of_step (machine_at mid number) ≡ Some reply)
  some_given says_done = done_gives (config_of mid) (order_at mid number) (machine_at mid number) got (done_of (answer_of (config_of mid) (order_at mid number) (machine_at mid number) got) (sym facts.says ∙ says_done))

  -- the machine after its step
  now_next : machine_at next_plain number ≡ next_machine mid number
  now_next =
      ap (λ machine_list. get_or machine_list number no_machine) facts.machines
      ∙ get_or-set_same (machines_of mid) number (next_machine mid number) no_machine (subst (λ machine_list. number < length machine_list) (sym facts.mid_machines) facts.within)

  -- after a step that ends a call memory has a reply
  pub has_reply : said ≡ stepped.Done → reply_in (machine_at next_plain number) ≢ None
  has_reply says_done no_reply =
      let found_reply = some_given says_done in
      let given_reply = given_after pause_image (config_of mid) (order_at mid number) got (machine_at mid number) found_reply.0 found_reply.1 in
      let contradiction : None ≡ Some found_reply.0 = sym no_reply ∙ ap reply_in now_next ∙ given_reply.replied in
      cc

  -- the reply that memory has after a step that ends a call is the one that the step gives
  pub reply_given : (reply : Reply) → said ≡ stepped.Done → reply_in (machine_at next_plain number) ≡ Some reply → reply_of_step (machine_at mid number) ≡ Some reply
  reply_given reply says_done reply_there =
      let found_reply = some_given says_done in
      let given_reply = given_after pause_image (config_of mid) (order_at mid number) got (machine_at mid number) found_reply.0 found_reply.1 in
      found_reply.1 ∙ sym given_reply.replied ∙ ap reply_in (sym now_next) ∙ reply_there

  -- the mutator of that reply is one of the work, and has a command that it answers
  pub can_tell : CanRun plain jobs → said ≡ stepped.Done → work.HasScript jobs number × (length (work.replies_of jobs number) < length (work.script_in jobs number))
  can_tell ran_before says_done =
      let found_reply = some_given says_done in
      let mutator_below = below_now found_reply.0 found_reply.1 in
      let given_reply = given_after pause_image (config_of mid) (order_at mid number) got (machine_at mid number) found_reply.0 found_reply.1 in
      (ran_before.jobs_are number mutator_below, ran_before.busy number mutator_below (ap is_resting (sym same_machine) ∙ given_reply.busy))
