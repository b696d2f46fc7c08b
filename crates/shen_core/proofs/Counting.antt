-- A run settles no more entries than its scripts have commands.
use Rattle.std.proofs.Common.{◌≡◌, ◌≢◌, ◌<◌, ◌≤◌, ℕ, ◌+◌, ◌-◌, Bool, true, false, List, [], ◌∷◌, ◌++◌, length, All, Option, Some, None, refl, sym, ap, ◌∙◌, subst, append_assoc, arith}
use Rattle.std.specs.Prelude.{◌==◌, slice_get, if◌then◌else◌}
use Rattle.std.proofs.lemmas.Bool.{eqb-true, eq-eqb}
use Rattle.std.proofs.lemmas.List.{append-nil, length-append, length-map}
use Rattle.std.proofs.lemmas.Option.{slice_get-map, get_or_from_slice_get}
use Rattle.std.proofs.lemmas.Bool.Decides.{nat_tests}
use Rattle.std.specs.Option.{option_map}
use Rattle.std.proofs.lemmas.List.Elements.{All-head, All-tail, filter-append}
use Rattle.regions.specs.Tops.{sum_below}
use Rattle.regions.proofs.Sums.{sum_both, sum_of_one, sum_same}
use Rattle.step_core.proofs.History.CrowdsGrow.{sum_below_le, sum_by_range}
use Rattle.heap_machines.specs.Pause.{pause_image}
use Rattle.heap_machines.proofs.Pauses.{heap_pauses}
use Rattle.heap_words.specs.declared.config.Config.{Config}
use Rattle.heap_words.specs.Steps.{Stage, Event, go}
use Rattle.heap_words.proofs.Runs.{go-append}
use Rattle.shen_graph.specs.declared.order.Order.{Order}
use Rattle.shen_graph.specs.declared.command.Command.{Command}
use Rattle.shen_graph.specs.declared.command.Reply.{Reply}
use Rattle.shen_graph.specs.History.{Entry, of_thread}
use Rattle.shen_graph.specs.Noting.{Noting}
use Rattle.shen_graph.specs.Work as work
use Rattle.mutator.specs.Orders.{is_between_calls}
use Rattle.mutator.specs.Rows.{Mutating}
use Rattle.heap_machines.specs.Shown.{no_machine}
use Rattle.step_core.specs.Actor.{mutating, Actor, entries_of}
use Rattle.step_core.specs.Machines.{kind, is_resting}
use Rattle.step_core.specs.Begins.{Run, ending, history_in}
use Rattle.step_core.specs.History.{history}
use Rattle.step_core.specs.Schedule.{Scripts}
use Rattle.step_core.specs.Sound.{IsSound}
use Rattle.step_core.specs.Threads.{IsSettled}
use Rattle.step_core.proofs.Theorem.EveryList.{run_sound}
use Rattle.shen_core.specs.declared.plain.Plain.{Plain}
use Rattle.shen_core.specs.State.{config_of, machines_of, machine_at, Shows}
use Rattle.shen_core.specs.Progress.{Jobs, Tells, CanRun}
use Rattle.shen_core.specs.Noting.{with_entry, noted, commands_in}
use Rattle.shen_core.proofs.Noting.{IsNoted}
use Rattle.shen_core.proofs.Settles.{history_both}

-- with one entry more a thread has one more, or as many
abbrev one : Entry → ℕ → ℕ
one entry thread = if entry.thread == thread + 1 then 1 else 0

more : (holds : Bool) (entry : Entry) (entries : List Entry) → length (if holds then entry ∷ entries else entries) ≡ (if holds then 1 else 0) + length entries
more true entry entries = omega arith
more false entry entries = omega arith

thread_more : (entry : Entry) (entries : List Entry) (thread : ℕ) → length (of_thread (entry ∷ entries) (thread + 1)) ≡ one entry thread + length (of_thread entries (thread + 1))
thread_more entry entries thread = more (entry.thread == thread + 1) entry (of_thread entries (thread + 1))

one_at : (entry : Entry) (thread : ℕ) → entry.thread ≡ thread + 1 → one entry thread ≡ 1
one_at entry thread own_entry = ap (λ own_test. if own_test then 1 else 0) (eq-eqb entry.thread (thread + 1) own_entry)

one_off : (entry : Entry) (thread : ℕ) → entry.thread ≢ thread + 1 → one entry thread ≡ 0
one_off entry thread threads_differ = by_test (entry.thread == thread + 1) refl
  where
    by_test : (holds : Bool) → (entry.thread == thread + 1) ≡ holds → one entry thread ≡ 0
    by_test true same_thread = absurd (threads_differ (eqb-true entry.thread (thread + 1) same_thread))
    by_test false other_thread = ap (λ holds. if holds then 1 else 0) other_thread

-- entries are those of their threads
counted : (threads : ℕ) (entries : List Entry) → All (IsSettled threads) entries → length entries ≤ sum_below (λ thread. length (of_thread entries (thread + 1))) threads
counted threads [] all_settled = omega arith
counted threads (entry ∷ entries) all_settled =
    let entry_settled = All-head (IsSettled threads) entry entries all_settled in
    let own_thread : ℕ = entry.thread - 1 in
    let thread_least = entry_settled.least in
    let thread_most = entry_settled.most in
    let thread_below : own_thread < threads = omega (arith, thread_least, thread_most) in
    let counts_one : one entry own_thread ≡ 1 = one_at entry own_thread (omega (arith, thread_least)) in
    let sum : sum_below (one entry) threads ≡ one entry own_thread = sum_of_one (one entry) threads own_thread thread_below (λ index small differs. one_off entry index (λ same_sums. differs (omega (arith, same_sums)))) in
    let joined_sum = sum_both (one entry) (λ thread. length (of_thread entries (thread + 1))) threads in
    let same_sums = sum_same (λ thread. length (of_thread (entry ∷ entries) (thread + 1))) (λ thread. one entry thread + length (of_thread entries (thread + 1))) threads (λ thread small. thread_more entry entries thread) in
    let later_counted = counted threads entries (All-tail (IsSettled threads) entry entries all_settled) in
    omega (arith, counts_one, sum, joined_sum, same_sums, later_counted)

all_right : {X : Type 0} (P : X → Type 0) (xs ys : List X) → All P (xs ++ ys) → All P ys
all_right P [] ys all_joined = all_joined
all_right P (x ∷ xs) ys all_joined = all_right P xs ys (All-tail P x (xs ++ ys) all_joined)

few : (seat : ℕ) (command : Command) (found : Option Reply) → length (entries_of seat command found) ≤ 1
few seat command None = omega arith
few seat command (Some reply) = omega arith

-- What events settle from a stage of a run on, where memory shows the stage after them.
module _ (heap_config : Config) (run : Run heap_config) (events : List (Event Order)) (scripts : Scripts) (plain : Plain) (jobs later : Jobs) (same_config : config_of plain ≡ heap_config) (shows : Shows plain (go (kind pause_image heap_config) (ending pause_image heap_config run) events))
    (before : Tells heap_config scripts jobs (ending pause_image heap_config run)) (after : Tells heap_config scripts later (go (kind pause_image heap_config) (ending pause_image heap_config run) events)) (can_run : CanRun plain later)
    (replies_within : (thread : ℕ) → thread < heap_config.mutators → length (work.replies_of later thread) ≤ length (work.script_in later thread)) where
  abbrev h : List Entry
  h = history pause_image heap_config (ending pause_image heap_config run) events

  -- the run with these events
  abbrev longer : Run heap_config
  longer = record { start = run.start; graph = run.graph; begins = run.begins; events = run.events ++ events }

  ends : ending pause_image heap_config longer ≡ go (kind pause_image heap_config) (ending pause_image heap_config run) events
  ends = go-append (kind pause_image heap_config) run.start run.events events

  past : history_in pause_image heap_config longer ≡ history_in pause_image heap_config run ++ h
  past = history_both heap_config run.start run.events events

  sound : IsSound heap_config run.graph (ending pause_image heap_config longer) (history_in pause_image heap_config longer)
  sound = run_sound pause_image heap_pauses heap_config longer

  -- all entries are of threads of the heap
  entries : All (IsSettled heap_config.mutators) h
  entries = all_right (IsSettled heap_config.mutators) (history_in pause_image heap_config run) h (subst (λ xs. All (IsSettled heap_config.mutators) xs) past sound.entries)

  -- a thread has no more of them than commands
  each : (mutator : ℕ) → mutator < heap_config.mutators → length (of_thread h (mutator + 1)) ≤ length (work.script_in jobs mutator)
  each mutator mutator_below =
      let actor_found = sound.of_heap.mutators mutator mutator_below in
      let a = actor_found.actor in
      let m = actor_found.mutator in
      let calls = sound.threads mutator a m actor_found.here in
      let has_actor : slice_get (go (kind pause_image heap_config) (ending pause_image heap_config run) events).machines mutator ≡ Some a = ap (λ (stage : Stage Actor). slice_get stage.machines mutator) (sym ends) ∙ actor_found.here.here in
      let replies = ap length (after.replies mutator a mutator_below has_actor) ∙ length-map a.calls (λ entry. entry.reply) in
      let script = ap length (after.scripts_are mutator mutator_below ∙ sym (before.scripts_are mutator mutator_below)) in
      let split = ap length (sym calls.entries_are ∙ ap (λ xs. of_thread xs (mutator + 1)) past ∙ filter-append (λ entry. entry.thread == mutator + 1) (history_in pause_image heap_config run) h) in
      let joined_length = length-append a.calls (entries_of mutator a.command calls.fixed) in
      let parts = length-append (of_thread (history_in pause_image heap_config run) (mutator + 1)) (of_thread h (mutator + 1)) in
      let enough = replies_within mutator mutator_below in
      by_rest a m has_actor actor_found.here.is calls.fixed calls.between_calls (is_between_calls m.spot) refl replies script split joined_length parts enough
    where
      by_rest : (found_actor : Actor) (found_mutator : Mutating) → slice_get (go (kind pause_image heap_config) (ending pause_image heap_config run) events).machines mutator ≡ Some found_actor → found_actor.machine ≡ mutating found_mutator → (fixed : Option Reply) → (is_between_calls found_mutator.spot ≡ true → fixed ≡ None)
          → (holds : Bool) → is_between_calls found_mutator.spot ≡ holds → length (work.replies_of later mutator) ≡ length found_actor.calls → length (work.script_in later mutator) ≡ length (work.script_in jobs mutator)
          → length (found_actor.calls ++ entries_of mutator found_actor.command fixed) ≡ length (of_thread (history_in pause_image heap_config run) (mutator + 1) ++ of_thread h (mutator + 1))
          → length (found_actor.calls ++ entries_of mutator found_actor.command fixed) ≡ length found_actor.calls + length (entries_of mutator found_actor.command fixed)
          → length (of_thread (history_in pause_image heap_config run) (mutator + 1) ++ of_thread h (mutator + 1)) ≡ length (of_thread (history_in pause_image heap_config run) (mutator + 1)) + length (of_thread h (mutator + 1))
          → length (work.replies_of later mutator) ≤ length (work.script_in later mutator) → length (of_thread h (mutator + 1)) ≤ length (work.script_in jobs mutator)
      by_rest found_actor found_mutator actor_there same_machine fixed between true between_calls replies script split calls_joined entries_joined enough =
          let no_entries : length (entries_of mutator found_actor.command fixed) ≡ 0 = ap (λ some_reply. length (entries_of mutator found_actor.command some_reply)) (between between_calls) in
          omega (arith, replies, script, split, calls_joined, entries_joined, enough, no_entries)
      by_rest found_actor found_mutator actor_there same_machine fixed between false call_state replies script split calls_joined entries_joined enough =
          let machine_there : slice_get (machines_of plain) mutator ≡ Some (mutating found_mutator) = sym (ap (λ some_machines. slice_get some_machines mutator) shows.machines_are) ∙ slice_get-map (λ (actor : Actor). actor.machine) (go (kind pause_image heap_config) (ending pause_image heap_config run) events).machines mutator
          ∙ ap (option_map (λ (actor : Actor). actor.machine)) actor_there ∙ ap Some same_machine in
          let machine_is : machine_at plain mutator ≡ mutating found_mutator = get_or_from_slice_get (machines_of plain) mutator (mutating found_mutator) no_machine machine_there in
          let fewer_replies = can_run.busy mutator (subst (λ some_config. mutator < some_config.mutators) (sym same_config) mutator_below) (ap is_resting machine_is ∙ call_state) in
          let one_more = few mutator found_actor.command fixed in
          omega (arith, replies, script, split, calls_joined, entries_joined, fewer_replies, one_more)

  pub settled_few : length h ≤ commands_in heap_config jobs
  settled_few =
      let sums = sum_by_range (λ thread. length (work.script_in jobs thread)) 0 heap_config.mutators in
      let same_sum = sum_same (λ index. length (work.script_in jobs (index + 0))) (λ index. length (work.script_in jobs index)) heap_config.mutators (λ index small. ap (λ number. length (work.script_in jobs number)) (omega arith)) in
      let sum_less = sum_below_le (λ thread. length (of_thread h (thread + 1))) (λ thread. length (work.script_in jobs thread)) heap_config.mutators each in
      let all_counted = counted heap_config.mutators h entries in
      omega (arith, sums, same_sum, sum_less, all_counted)

-- with memory for all entries, all are noted
pub noted_all : (noting : Noting) (entries : List Entry) → length entries ≤ noting.spare → IsNoted noting (noted noting entries) entries
unfolding noted
noted_all noting [] enough = record { list = sym (append-nil noting.list); spare = omega arith }
noted_all noting (entry ∷ entries) enough =
    let some_spare : (noting.spare == 0) ≡ false = grind (arith, nat_tests, enough) in
    let next_noting : with_entry noting entry ≡ record { list = noting.list ++ entry ∷ []; spare = noting.spare - 1 } = rw some_spare refl in
    let later_noted = noted_all (record { list = noting.list ++ entry ∷ []; spare = noting.spare - 1 }) entries (omega (arith, enough)) in
    subst (λ some_noting. IsNoted noting (noted some_noting entries) (entry ∷ entries)) (sym next_noting)
    (record {
      list = later_noted.list ∙ append_assoc noting.list (entry ∷ []) entries;
      spare = (let spare = later_noted.spare in omega (arith, spare, enough));
    })
