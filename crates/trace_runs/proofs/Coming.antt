-- The end of a run on threads: all machines are there, and idle.
use Rattle.std.proofs.Common.{◌≡◌, ℕ, ◌+◌, ◌-◌, ◌<◌, ◌≤◌, ◌&&◌, true, List, length, Option, Some, None, refl, sym, ap, ◌∙◌, subst, arith, mod-lt}
use Rattle.std.specs.Prelude.{◌%◌, nat_lt, nat_le, slice_get}
use Rattle.std.specs.Option.{is_some}
use Rattle.std.proofs.lemmas.Bool.{lt-ltb}
use Rattle.std.proofs.lemmas.Bool.Decides.{nat_tests}
use Rattle.shen_graph.proofs.Options.{some_if_is_some}
use Rattle.heap_words.specs.declared.config.Config.{Config}
use Rattle.heap_words.specs.declared.schedule.Item.{Item}
use Rattle.heap_words.specs.Ranges.{seat_count}
use Rattle.heap_words.specs.Steps.{Stage, IsReached}
use Rattle.shen_graph.specs.GraphText.{Text, names_of, root_of, pin_of}
use Rattle.shen_graph.specs.History.{Entry, after, of_thread}
use Rattle.shen_graph.specs.History as history
use Rattle.shen_graph.specs.Work as work
use Rattle.heap_world.specs.Shows as texts
use Rattle.heap_machines.specs.Pause.{pause_image}
use Rattle.shared_table.specs.Views.{machine_of, whole}
use Rattle.shared_table.proofs.Kept.{kept_some}
use Rattle.shared_table.proofs.ViewsShow.{machine_of-whole}
use Rattle.step_core.specs.Actor.{Actor}
use Rattle.step_core.specs.Machines.{is_resting}
use Rattle.heap_machines.specs.Roles.{is_mutating}
use Rattle.step_core.specs.Begins.{first_graph, reached, past}
use Rattle.step_core.specs.Schedule.{Scripts, turn, turn_of}
use Rattle.shen_core.specs.Calls.{AllHaveCalled}
use Rattle.shen_core.specs.Progress.{Jobs, AreIdle}
use Rattle.table_heap.specs.declared.heap.Heap.{Heap}
use Rattle.table_heap.specs.declared.closed.Closed.{Closed}
use Rattle.table_heap.specs.Closed as closed
use Rattle.table_heap.specs.Closed.{HasAll, IsControlIdle}
use Rattle.table_heap.specs.Core.{heap_kind, heap_opening, machine_in}
use Rattle.table_heap.specs.State.{config_of, view_of}
use Rattle.table_heap.proofs.Ended.{idle_takes, idle_turn}
use Rattle.table_heap.proofs.Running.{role_at}
use Rattle.trace_reading.specs.Grammar.{Reads}
use Rattle.trace_text.specs.Answer.{answer_text}
use Rattle.trace_runs.specs.declared.parts.Part.{Part}
use Rattle.trace_runs.specs.declared.load.Load.TheVariants.{Scripted}
use Rattle.trace_runs.specs.DealtParts.{Assigned, LoadIsDone, IsDone}
use Rattle.trace_runs.specs.DealtParts.Assigned.{scripts as by_scripts}
use Rattle.trace_runs.specs.Replayed.{IsWhole, IsRun}
use Rattle.trace_runs.specs.Running.{HasCome}
use Rattle.trace_runs.proofs.Whole as ends

-- all are dealt to some bundle
all_dealt : (bundle_number workers number count : ℕ) → bundle_number < workers → number < count → (nat_lt number count && (nat_le 0 bundle_number && nat_lt bundle_number workers)) ≡ true
all_dealt bundle_number workers number count bundle_below number_below = grind (arith, nat_tests)

module _ (heap : Heap) (assigned : Assigned) (workers : ℕ) (whole_part : Part) (some_worker : 0 < workers) (part_done : IsDone heap assigned workers 0 workers whole_part) where
  machine_there : (seat : ℕ) → seat < seat_count (config_of heap).mutators (config_of heap).helpers → is_some (machine_of (view_of whole_part.bundle) seat) ≡ true
  machine_there seat seat_below = part_done.has.machines seat ∙ all_dealt (seat % workers) workers seat (seat_count (config_of heap).mutators (config_of heap).helpers) (mod-lt seat some_worker) seat_below

  same : whole_part.bundle.config ≡ config_of heap
  same = part_done.has.of.config

  pub has_all : HasAll whole_part.bundle
  has_all asked_number number_below =
      ap (λ view. is_some (machine_of view asked_number)) (sym whole_part.bundle.kept) ∙ kept_some machine_in (view_of whole_part.bundle) asked_number
      ∙ machine_there asked_number (subst (λ (config : Config). asked_number < seat_count config.mutators config.helpers) same number_below)

  pub control_idle : IsControlIdle whole_part.bundle
  control_idle actor control_there = idle_takes actor.machine (part_done.idle _ actor control_there)

  pub mutates : (number : ℕ) (actor : Actor) → machine_of (view_of whole_part.bundle) number ≡ Some actor → number < (config_of heap).mutators → is_mutating actor.machine ≡ true
  mutates number actor actor_there number_below = role_at whole_part.bundle number actor actor_there ∙ ap (λ (config : Config). nat_lt number config.mutators) same ∙ lt-ltb number (config_of heap).mutators number_below

  -- each mutator is there
  pub mutator_there : (seat : ℕ) → seat < (config_of heap).mutators → (actor : Actor) × (machine_of (view_of whole_part.bundle) seat ≡ Some actor)
  mutator_there seat seat_below = some_if_is_some (machine_of (view_of whole_part.bundle) seat) (machine_there seat (omega (arith, seat_below)))

  module _ (end : Closed) (view : view_of whole_part.bundle ≡ whole (closed.machines_of end)) where
    pub at : (index : ℕ) → machine_of (view_of whole_part.bundle) index ≡ slice_get (closed.machines_of end) index
    at index = ap (λ any_view. machine_of any_view index) view ∙ machine_of-whole (closed.machines_of end) index

    pub seen : (index : ℕ) (actor : Actor) → slice_get (closed.machines_of end) index ≡ Some actor → machine_of (view_of whole_part.bundle) index ≡ Some actor
    seen index actor actor_there = at index ∙ actor_there

    -- no machine has a turn, whatever the scripts
    pub all_idle : (scripts : Scripts) → AreIdle (config_of heap) scripts (closed.stage_of end)
    all_idle scripts number number_below = by_actor (slice_get (closed.machines_of end) number) refl
      where
        by_actor : (found : Option Actor) → slice_get (closed.machines_of end) number ≡ found → turn scripts (closed.stage_of end) number ≡ None
        by_actor None same_found = ap (turn_of scripts number) same_found
        by_actor (Some actor) same_found = idle_turn scripts (closed.stage_of end) number actor same_found (part_done.idle number actor (seen number actor same_found))

    -- all scripts were called
    pub come : (scripts : Scripts) (jobs : Jobs) → LoadIsDone (config_of heap) (by_scripts scripts) workers 0 workers (view_of whole_part.bundle) (Scripted jobs) → closed.config_of end ≡ config_of heap
        → IsReached (heap_kind (config_of heap)) (heap_opening (config_of heap)) (closed.stage_of end) → HasCome (config_of heap) scripts jobs end
    come scripts jobs did same_config leads = record {
      config = same_config;
      reached = leads;
      idle = all_idle scripts;
      called = λ mutator mutator_below.
          let found_mutator = mutator_there mutator mutator_below in
          let called = did.1 mutator found_mutator.0 found_mutator.1 (mutates mutator found_mutator.0 found_mutator.1 mutator_below) in
          record { actor = found_mutator.0; here = sym (at mutator) ∙ found_mutator.1; called = called.whole };
      replies = λ mutator actor mutator_below actor_there. (did.1 mutator actor (seen mutator actor actor_there) (mutates mutator actor (seen mutator actor actor_there) mutator_below)).told;
      jobs_are = λ mutator mutator_below. did.0.numbers mutator ∙ all_dealt (mutator % workers) workers mutator (config_of heap).mutators (mod-lt mutator some_worker) mutator_below;
    }

-- in the end no mutator has a call in progress
pub come_rest : (config : Config) (scripts : Scripts) (jobs : Jobs) (end : Closed) → HasCome config scripts jobs end → closed.AllRest end
come_rest config scripts jobs end has_come number given_actor number_below actor_there =
    let called = has_come.called number (subst (λ (config : Config). number < config.mutators) has_come.config number_below) in
    let same_actor : called.actor ≡ given_actor = let same_option = sym called.here ∙ actor_there in cc in
    ap (λ (actor : Actor). is_resting actor.machine) (sym same_actor) ∙ called.called.rest

-- ---- the history

module _ (config : Config) (scripts : Scripts) (jobs : Jobs) (end : Closed) (has_come : HasCome config scripts jobs end) where
  leads : reached pause_image config has_come.reached.events ≡ closed.stage_of end
  leads = has_come.reached.ends

  called : AllHaveCalled config scripts (reached pause_image config has_come.reached.events)
  called = subst (λ stage. AllHaveCalled config scripts stage) (sym leads) has_come.called

  -- the history in which the scripts were called, and what it is
  abbrev pub come_past : List Entry
  come_past = past pause_image config has_come.reached.events

  pub come_whole : length scripts ≡ config.mutators → IsWhole config scripts has_come.reached.events
  come_whole count = ends.whole config scripts has_come.reached.events count (subst (λ stage. AreIdle config scripts stage) (sym leads) has_come.idle) called

  -- the work has its replies
  pub come_told : (mutator : ℕ) → mutator < config.mutators → work.replies_of jobs mutator ≡ history.replies_of (of_thread come_past (mutator + 1))
  come_told asked_mutator mutator_below =
      let did = called asked_mutator mutator_below in
      told asked_mutator did.actor mutator_below did.here ∙ sym (ap history.replies_of (ends.entries_called config scripts has_come.reached.events asked_mutator did))
    where
      told : (mutator : ℕ) (actor : Actor) → mutator < config.mutators → slice_get (reached pause_image config has_come.reached.events).machines mutator ≡ Some actor → work.replies_of jobs mutator ≡ history.replies_of actor.calls
      told = subst (λ (stage : Stage Actor). (mutator : ℕ) (actor : Actor) → mutator < config.mutators → slice_get stage.machines mutator ≡ Some actor → work.replies_of jobs mutator ≡ history.replies_of actor.calls) (sym leads) has_come.replies

-- ---- the answer

pub answered : (bytes : List ℕ) (version : ℕ) (config : Config) (scripts : Scripts) (items : List Item) (jobs : Jobs) (end : Closed) (text : Text)
    → Reads bytes version config scripts items → length scripts ≡ config.mutators → (has_come : HasCome config scripts jobs end) → length text.roots ≡ config.mutators → texts.ShowsGraph text config.mutators (after (first_graph config) (come_past config scripts jobs end has_come))
    → IsRun bytes (answer_text version (length text.roots) (λ thread. work.replies_of jobs (thread - 1)) text.rows (root_of text) (pin_of text))
answered bytes version config scripts items jobs end text reads count has_come roots shows = record {
  version = version;
  config = config;
  scripts = scripts;
  items = items;
  reads = reads;
  events = has_come.reached.events;
  whole = come_whole config scripts jobs end has_come count;
  text = record { names = names_of text; reach = shows.reach; text = ends.text_shown version config.mutators jobs (come_past config scripts jobs end has_come) text roots shows replies };
}
  where
    replies : (thread : ℕ) → 1 ≤ thread → thread ≤ config.mutators → work.replies_of jobs (thread - 1) ≡ history.replies_of (of_thread (come_past config scripts jobs end has_come) thread)
    replies thread some_thread thread_at_most =
        let same_thread : thread - 1 + 1 ≡ thread = omega arith in
        come_told config scripts jobs end has_come (thread - 1) (omega arith) ∙ ap (λ thread_number. history.replies_of (of_thread (come_past config scripts jobs end has_come) thread_number)) same_thread
