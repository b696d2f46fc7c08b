-- Users of a queue on a heap that was just opened, and what comes of them.
use Rattle.std.proofs.Common.{◌≡◌, ℕ, zero, suc, ◌+◌, ◌-◌, ◌*◌, ◌^◌, ◌<◌, ◌≤◌, List, [], ◌∷◌, length, get_or, map, take, All, Some, None, refl, sym, ap, subst, ◌∙◌, arith}
use Rattle.std.specs.Prelude.{slice_get}
use Rattle.std.specs.List.{range_with_len}
use Rattle.std.proofs.lemmas.List.{length-map}
use Rattle.std.proofs.lemmas.List.Elements.{All-from_recursion, All-nil, All-take, All-drop}
use Rattle.std.proofs.lemmas.List.FromFn.{length-range_with_len, get_or-map-range_with_len}
use Rattle.std.proofs.lemmas.Option.{get_or_from_slice_get}
use Rattle.std.proofs.Math.Nat.{mul-le-mul_left, mul-le-mul_right, le_trans}
use Rattle.heap_words.specs.declared.config.Config.{Config}
use Rattle.heap_words.specs.Ranges.{seat_count}
use Rattle.heap_words.specs.Steps.{Stage, IsReached}
use Rattle.shen_graph.specs.History.{Entry, of_thread, commands_of}
use Rattle.shen_graph.specs.Crowd.{IsLegalHistory}
use Rattle.shen_graph.specs.Work.{opened, parted}
use Rattle.shen_graph.specs.Valid.{IsValid, most_objects}
use Rattle.arrayvec.specs.ArrayVec.{ArrayVec}
use Rattle.shen_graph.specs.declared.command.Command.{Command}
use Rattle.heap_machines.specs.Pause.{pause_image}
use Rattle.shared_table.specs.Views.{whole, dealt_to}
use Rattle.step_core.specs.Actor.{Actor}
use Rattle.step_core.specs.Begins.{reached, past}
use Rattle.step_core.specs.Schedule.{Scripts}
use Rattle.shen_core.specs.Calls.{AllHaveCalled}
use Rattle.shen_core.specs.Progress.{AreIdle, IsRunnable}
use Rattle.managed_queue.specs.Users.{Use, next_of, used, to_come, IsDriven, use_after}
use Rattle.managed_queue.specs.Workload.{queue_user, got_in, IsQueueRun, TellsQueue}
use Rattle.managed_queue.proofs.Told.{queue_runs_tell}
use Rattle.table_heap.specs.declared.bundle.Bundle.{Bundle}
use Rattle.table_heap.specs.declared.heap.Heap.{Heap}
use Rattle.table_heap.specs.declared.closed.Closed.{Closed}
use Rattle.table_heap.specs.Closed as closed
use Rattle.table_heap.specs.Core.{heap_kind, heap_opening, nobody}
use Rattle.table_heap.specs.Drivers.{IsDrivenFrom, driver_after}
use Rattle.table_heap.specs.State.{config_of, view_of, IsFresh}
use Rattle.trace_text.specs.Message.{line_text}
use Rattle.trace_text.specs.declared.message.Line.TheVariants as line
use Rattle.trace_runs.specs.declared.load.Load.TheVariants.{Scripted, Driven}
use Rattle.trace_runs.specs.declared.parts.Part.{Part}
use Rattle.trace_runs.specs.DealtParts.{crew_of, IsPart, HasUsed, IsCrewed, LoadIsDone, PartIsReady, IsDone, CanBeDealt}
use Rattle.trace_runs.specs.DealtParts.Assigned.{users}
use Rattle.trace_runs.specs.DealtParts.Assigned.{scripts as by_scripts}
use Rattle.trace_runs.specs.Words.{most_numbers}
use Rattle.trace_runs.specs.Replayed.{IsWhole}
use Rattle.trace_runs.specs.Queued.{IsQueueHeap, queue_users, CanBeCrewed, IsQueued}
use Rattle.trace_runs.proofs.Dealing.{left_after, ready_part}
use Rattle.trace_runs.proofs.PartLaws.{crew_counts}
use Rattle.trace_runs.proofs.Coming.{mutates, mutator_there, at, seen, all_idle}
use Rattle.trace_runs.proofs.Whole as ends

-- ---- the users of a heap

-- no user is to make more than 392 objects
few_to_come : (count : ℕ) → count ≤ most_numbers → All (λ (use_of : Use). to_come use_of < most_objects) (queue_users count)
few_to_come count count_small = All-from_recursion (λ (use_of : Use). to_come use_of < most_objects) (queue_users count) (omega (arith, count_small), (omega (arith, count_small), (omega arith, (omega arith, tt))))

-- the scripts of mutators that have nothing to do
abbrev idle_scripts : Scripts
idle_scripts = [] ∷ [] ∷ [] ∷ [] ∷ []

none_runnable : IsRunnable []
none_runnable = (All-nil IsValid, omega arith)

-- the part of a bundle, with the user of its one machine
pub crewed_part : (heap : Heap) (count : ℕ) (bundles : List Bundle) (workers index : ℕ) (bundle : Bundle) (crew : ArrayVec Use) → count ≤ most_numbers → CanBeCrewed heap bundles → workers ≡ length bundles → slice_get bundles index ≡ Some bundle
    → crew.items ≡ crew_of (queue_users count) index (index + 1) → PartIsReady heap (users (queue_users count)) workers index (index + 1) (record { bundle = bundle; load = Driven crew })
crewed_part heap count bundles workers index bundle crew count_small can_crew as_many_bundles bundle_there crew_is = record {
  has = part;
  load = (crewed, crew_is);
  start = record {
    orders = idle.start.orders;
    mutators = λ number actor machine_there role.
        let can_start = idle.start.mutators number actor machine_there role in
        record { calls = can_start.calls; rest = can_start.rest; free = can_start.free; made = can_start.made };
    count = ap length crew_is ∙ crew_counts heap workers index (index + 1) (record { bundle = bundle; load = Driven crew }) part (omega arith) crewed.single (queue_users count) crewed;
    few = subst (λ given_users. All (λ (use_of : Use). to_come use_of < most_objects) given_users) (sym crew_is)
        (All-drop (λ (use_of : Use). to_come use_of < most_objects) index (take (index + 1) (queue_users count)) (All-take (λ (use_of : Use). to_come use_of < most_objects) (index + 1) (queue_users count) (few_to_come count count_small)));
  };
}
  where
    crewed : IsCrewed (config_of heap) (queue_users count) workers
    crewed = record { single = as_many_bundles ∙ can_crew.single; count = sym can_crew.heap.mutators }

    can_idle : CanBeDealt heap idle_scripts (opened idle_scripts) bundles
    can_idle = record {
      fresh = can_crew.fresh;
      jobs_are = refl;
      count = sym can_crew.heap.mutators;
      runnable = All-from_recursion IsRunnable idle_scripts (none_runnable, (none_runnable, (none_runnable, (none_runnable, tt))));
    }

    idle : PartIsReady heap (by_scripts idle_scripts) workers index (index + 1) (record { bundle = bundle; load = Scripted (parted workers index (left_after workers index idle_scripts)) })
    idle = ready_part heap idle_scripts (opened idle_scripts) bundles can_idle workers index bundle (left_after workers index idle_scripts) as_many_bundles bundle_there refl

    part : IsPart heap workers index (index + 1) (record { bundle = bundle; load = Driven crew })
    part = record { of = idle.has.of; machines = idle.has.machines }

-- the bundles that a heap was opened with
pub can_be_crewed : (heap : Heap) (config : Config) (bundles : List Bundle) (workers : ℕ) → config_of heap ≡ config → IsQueueHeap config → length bundles ≡ workers → workers ≡ seat_count config.mutators config.helpers
    → ((index : ℕ) (bundle : Bundle) → slice_get bundles index ≡ Some bundle → IsFresh heap bundle (dealt_to workers index (whole (heap_opening config).machines))) → CanBeCrewed heap bundles
can_be_crewed heap other_config bundles workers config sizes count seats fresh = record {
  fresh = λ index bundle bundle_there.
      subst (λ amount. IsFresh heap bundle (dealt_to amount index (whole (heap_opening (config_of heap)).machines))) (sym count)
      (subst (λ (config : Config). IsFresh heap bundle (dealt_to workers index (whole (heap_opening config).machines))) (sym config) (fresh index bundle bundle_there));
  heap = subst IsQueueHeap (sym config) sizes;
  single = count ∙ seats ∙ ap (λ (config : Config). seat_count config.mutators config.helpers) (sym config);
}

-- ---- what a driver's calls are to a user

as_driven : (use_of : Use) (entries : List Entry) → IsDrivenFrom next_of used use_of entries → IsDriven use_of entries
as_driven use_of [] driven = tt
as_driven use_of (entry ∷ entries) driven = (driven.0, as_driven (used use_of entry.reply) entries driven.1)

as_after : (use_of : Use) (entries : List Entry) → driver_after used use_of entries ≡ use_after use_of entries
as_after use_of [] = refl
as_after use_of (entry ∷ entries) = as_after (used use_of entry.reply) entries

user_at : (count index : ℕ) → index < 4 → slice_get (queue_users count) index ≡ Some (queue_user count index)
user_at count zero index_below = refl
user_at count (suc zero) index_below = refl
user_at count (suc (suc zero)) index_below = refl
user_at count (suc (suc (suc zero))) index_below = refl
user_at count (suc (suc (suc (suc index)))) index_below = absurd (omega (arith, index_below))

same_user : (use_of other_use_of : Use) → Some use_of ≡ Some other_use_of → use_of ≡ other_use_of
same_user use_of other_use_of same_found = cc

-- ---- the history

module _ (heap : Heap) (count workers : ℕ) (whole_part : Part) (crew : ArrayVec Use) (some_workers : 0 < workers) (all_done : IsDone heap (users (queue_users count)) workers 0 workers whole_part) (load : whole_part.load ≡ Driven crew) (sizes : IsQueueHeap (config_of heap))
    (end : Closed) (view : view_of whole_part.bundle ≡ whole (closed.machines_of end)) (leads : IsReached (heap_kind (config_of heap)) (heap_opening (config_of heap)) (closed.stage_of end)) where
  did : LoadIsDone (config_of heap) (users (queue_users count)) workers 0 workers (view_of whole_part.bundle) (Driven crew)
  did = subst (λ any_load. LoadIsDone (config_of heap) (users (queue_users count)) workers 0 workers (view_of whole_part.bundle) any_load) load all_done.load

  -- the commands that the mutators called
  abbrev script_at : ℕ → List Command
  script_at index = commands_of (get_or (closed.machines_of end) index nobody).calls

  abbrev called_scripts : Scripts
  called_scripts = map script_at (range_with_len 0 (config_of heap).mutators)

  abbrev history : List Entry
  history = past pause_image (config_of heap) leads.events

  many : length called_scripts ≡ (config_of heap).mutators
  many = length-map (range_with_len 0 (config_of heap).mutators) script_at ∙ length-range_with_len 0 (config_of heap).mutators

  used_in_end : (index : ℕ) (actor : Actor) → index < (config_of heap).mutators → slice_get (closed.machines_of end) index ≡ Some actor → HasUsed (queue_users count) crew.items 0 index actor
  used_in_end index actor index_below machine_there =
      let seen_there = seen heap (users (queue_users count)) workers whole_part some_workers all_done end view index actor machine_there in
      did.2 index actor seen_there (mutates heap (users (queue_users count)) workers whole_part some_workers all_done index actor seen_there index_below)

  called_in_end : AllHaveCalled (config_of heap) called_scripts (closed.stage_of end)
  called_in_end asked_mutator mutator_below =
      let found_mutator = mutator_there heap (users (queue_users count)) workers whole_part some_workers all_done asked_mutator mutator_below in
      let machine_there : slice_get (closed.machines_of end) asked_mutator ≡ Some found_mutator.0 = sym (at heap (users (queue_users count)) workers whole_part some_workers all_done end view asked_mutator) ∙ found_mutator.1 in
      let found_is : get_or (closed.machines_of end) asked_mutator nobody ≡ found_mutator.0 = get_or_from_slice_get (closed.machines_of end) asked_mutator found_mutator.0 nobody machine_there in
      record {
        actor = found_mutator.0;
        here = machine_there;
        called = record {
          rest = (used_in_end asked_mutator found_mutator.0 mutator_below machine_there).driven.rest;
          commands = ap (λ (actor : Actor). commands_of actor.calls) (sym found_is) ∙ sym (get_or-map-range_with_len script_at 0 (config_of heap).mutators asked_mutator asked_mutator [] mutator_below (omega arith));
        };
      }

  called : AllHaveCalled (config_of heap) called_scripts (reached pause_image (config_of heap) leads.events)
  called = subst (λ stage. AllHaveCalled (config_of heap) called_scripts stage) (sym leads.ends) called_in_end

  used_in : (number : ℕ) (actor : Actor) → number < (config_of heap).mutators → slice_get (reached pause_image (config_of heap) leads.events).machines number ≡ Some actor → HasUsed (queue_users count) crew.items 0 number actor
  used_in = subst (λ (stage : Stage Actor). (mutator : ℕ) (actor : Actor) → mutator < (config_of heap).mutators → slice_get stage.machines mutator ≡ Some actor → HasUsed (queue_users count) crew.items 0 mutator actor) (sym leads.ends) used_in_end

  whole_run : IsWhole (config_of heap) called_scripts leads.events
  whole_run =
      ends.whole (config_of heap) called_scripts leads.events many
      (subst (λ stage. AreIdle (config_of heap) called_scripts stage) (sym leads.ends) (all_idle heap (users (queue_users count)) workers whole_part some_workers all_done end view called_scripts)) called

  -- a thread's entries are those of its user, up to its end
  record IsPlayedOut (mutator : ℕ) : Type 0 where
    driven : IsDriven (queue_user count mutator) (of_thread history (mutator + 1))
    ended : next_of (use_after (queue_user count mutator) (of_thread history (mutator + 1))) ≡ None
    there : slice_get crew.items mutator ≡ Some (use_after (queue_user count mutator) (of_thread history (mutator + 1)))

  played_out : (index : ℕ) → index < 4 → IsPlayedOut index
  played_out index index_below =
      let index_within : index < (config_of heap).mutators = omega (arith, index_below, sizes.mutators) in
      let call = called index index_within in
      let its_use = used_in index call.actor index_within call.here in
      let calls : of_thread history (index + 1) ≡ call.actor.calls = ends.entries_called (config_of heap) called_scripts leads.events index call in
      let same_begun : its_use.begun ≡ queue_user count index = same_user its_use.begun (queue_user count index) (sym its_use.begun_is ∙ user_at count index index_below) in
      let last_use : its_use.ended ≡ use_after (queue_user count index) (of_thread history (index + 1)) =
      its_use.driven.state ∙ as_after its_use.begun call.actor.calls ∙ ap (λ user. use_after user call.actor.calls) same_begun ∙ ap (use_after (queue_user count index)) (sym calls) in
      let index_back : index - 0 ≡ index = omega arith in
      record {
        driven = subst (λ given_entries. IsDriven (queue_user count index) given_entries) (sym calls) (subst (λ user. IsDriven user call.actor.calls) same_begun (as_driven its_use.begun call.actor.calls its_use.driven.driven));
        ended = subst (λ user. next_of user ≡ None) last_use its_use.driven.ended;
        there = ap (slice_get crew.items) (sym index_back) ∙ its_use.ended_is ∙ ap Some last_use;
      }

  pub queue_run : IsQueueRun count history
  queue_run = record {
    scripts = called_scripts;
    threads = many ∙ sizes.mutators;
    follows = whole_run.follows;
    legal = subst (λ (region_words : ℕ). IsLegalHistory 16 region_words called_scripts history) sizes.region_words
        (subst (λ (regions : ℕ). IsLegalHistory regions (config_of heap).region_words called_scripts history) sizes.regions whole_run.legal);
    driven = λ index index_below. (played_out index index_below).driven;
    ended = λ index index_below. (played_out index index_below).ended;
  }

  pub queue_tells : count ≤ most_numbers → TellsQueue count history
  queue_tells count_small = queue_runs_tell count history count_small queue_run

  pub taker_there : (index : ℕ) → index < 4 → slice_get crew.items index ≡ Some (use_after (queue_user count index) (of_thread history (index + 1)))
  taker_there index index_below = (played_out index index_below).there

  -- so the numbers are small
  pub small_items : count ≤ most_numbers → (got_in count history 2).items + (got_in count history 3).items < 2 ^ 64
  small_items count_small = let items = (queue_tells count_small).items in omega (arith, items, count_small)

  pub small_sum : count ≤ most_numbers → (got_in count history 2).sum + (got_in count history 3).sum < 2 ^ 128
  small_sum count_small =
      let total = (queue_tells count_small).sum in
      let product : count * (count + 1) ≤ 390 * 391 = le_trans (mul-le-mul_left count (omega (arith, count_small))) (mul-le-mul_right 391 count_small) in
      omega (arith, total, product, count_small)

  -- and the line says what the takers got
  pub queued : count ≤ most_numbers → (items sum : ℕ) → items ≡ (got_in count history 2).items + (got_in count history 3).items → sum ≡ (got_in count history 2).sum + (got_in count history 3).sum
      → IsQueued count (line_text (line.Queue count items sum))
  unfolding queue_run
  queued count_small items sum items_are sum_is = record {
    config = config_of heap;
    heap = sizes;
    events = leads.events;
    run = queue_run;
    whole = whole_run;
    tells = queue_tells count_small;
    text = ap (λ items. line_text (line.Queue count items sum)) items_are ∙ ap (λ sum. line_text (line.Queue count ((got_in count history 2).items + (got_in count history 3).items) sum)) sum_is;
  }
