-- The parts of a heap that was just opened.
use Rattle.std.proofs.Common.{◌≡◌, ⊎_elim, ℕ, ◌+◌, ◌<◌, ◌≤◌, ◌&&◌, Bool, true, false, not, List, [], length, get_or, All, Option, Some, None, refl, sym, ap, ◌∙◌, subst, arith}
use Rattle.std.specs.Prelude.{◌%◌, ◌==◌, nat_lt, nat_le, slice_get, option_map, unwrap_or, IsSome, if◌then◌else◌}
use Rattle.std.specs.Option.{is_some}
use Rattle.std.proofs.lemmas.Option.{slice_get-get_or, slice_get_past, get_or_from_slice_get}
use Rattle.std.proofs.lemmas.List.Elements.{All-get_or}
use Rattle.std.proofs.lemmas.Bool.{cases_lt, lt-ltb, false≢true}
use Rattle.std.proofs.lemmas.Bool.Decides.{nat_tests}
use Rattle.heap_words.specs.declared.config.Config.{Config}
use Rattle.heap_words.specs.Ranges.{seat_count}
use Rattle.shen_graph.specs.declared.command.Command.{Command}
use Rattle.shen_graph.specs.Work.{Progress, progress_of, begun, opened, picked, parted, left_over, is_in_part}
use Rattle.shen_graph.proofs.Parts.{same_work, progress_of-picked, progress_of-parted, progress_of-left_over, progress_of-opened}
use Rattle.shared_table.specs.Views.{machine_of, whole, is_dealt_to, dealt_to}
use Rattle.shared_table.proofs.ViewsShow.{machine_of-whole, machine_of-picked}
use Rattle.step_core.specs.Schedule.{Scripts}
use Rattle.step_core.specs.Schedule as schedule
use Rattle.shen_core.specs.Progress.{IsRunnable}
use Rattle.table_heap.specs.declared.bundle.Bundle.{Bundle}
use Rattle.table_heap.specs.declared.heap.Heap.{Heap}
use Rattle.table_heap.specs.Core.{heap_opening, nobody}
use Rattle.table_heap.specs.State.{config_of, IsFresh}
use Rattle.table_heap.specs.Running.{Jobs}
use Rattle.heap_machines.proofs.Openings.{first_count}
use Rattle.table_heap.proofs.Starting.{fresh_can_start}
use Rattle.trace_runs.specs.declared.load.Load.TheVariants.{Scripted}
use Rattle.trace_runs.specs.DealtParts.{PartIsReady, CanBeDealt}
use Rattle.trace_runs.specs.DealtParts.Assigned.{scripts as by_scripts}

-- ---- tests and options

some_within : {A : Type 0} (xs : List A) (index : ℕ) (fallback : A) → is_some (slice_get xs index) ≡ nat_lt index (length xs)
some_within xs index fallback = ⊎_elim
    (λ (index_below : index < length xs). ap is_some (slice_get-get_or xs index fallback index_below) ∙ sym (lt-ltb index (length xs) index_below))
    (λ (past_end : length xs ≤ index). ap is_some (slice_get_past xs index past_end) ∙ sym (outside index (length xs) past_end))
    (cases_lt index (length xs))
  where
    outside : (index count : ℕ) → count ≤ index → nat_lt index count ≡ false
    outside index count index_past = grind (arith, nat_tests)

and_true : (holds : Bool) → holds ≡ (holds && true)
and_true true = refl
and_true false = refl

and_false : (holds : Bool) → false ≡ (holds && false)
and_false true = refl
and_false false = refl

one_dealt : {A : Type 0} (found : Option A) (holds : Bool) (x k : ℕ) → is_some found ≡ holds → is_some (if x == k then found else None) ≡ (holds && (nat_le k x && nat_lt x (k + 1)))
one_dealt found holds x k same_test = by_test (x == k) refl
  where
    by_test : (other_holds : Bool) → (x == k) ≡ other_holds → is_some (if x == k then found else None) ≡ (holds && (nat_le k x && nat_lt x (k + 1)))
    by_test true tested =
        let number_inside : (nat_le k x && nat_lt x (k + 1)) ≡ true = grind (arith, nat_tests) in
        ap (λ other_holds. is_some (if other_holds then found else None)) tested ∙ same_test ∙ and_true holds ∙ sym (ap (λ is_dealt. holds && is_dealt) number_inside)
    by_test false tested =
        let outside : (nat_le k x && nat_lt x (k + 1)) ≡ false = grind (arith, nat_tests) in
        ap (λ other_holds. is_some (if other_holds then found else None)) tested ∙ and_false holds ∙ sym (ap (λ is_dealt. holds && is_dealt) outside)

-- the parts that are left after some
abbrev pub is_left : ℕ → ℕ → ℕ → Bool
is_left workers dealt_count number = not (nat_lt (number % workers) dealt_count)

abbrev pub left_after : ℕ → ℕ → List (List Command) → Jobs
left_after workers dealt_count scripts = picked (is_left workers dealt_count) (opened scripts)

-- and after each there is one less
pub one_less : (workers dealt_count : ℕ) (scripts : List (List Command)) → left_over workers dealt_count (left_after workers dealt_count scripts) ≡ left_after workers (dealt_count + 1) scripts
one_less workers dealt_count scripts = same_work _ (left_after workers (dealt_count + 1) scripts) refl refl (λ thread.
    progress_of-left_over workers dealt_count (left_after workers dealt_count scripts) thread refl
    ∙ ap (λ found. if is_in_part workers dealt_count thread then None else found) (progress_of-picked (is_left workers dealt_count) (opened scripts) thread refl)
    ∙ by (thread % workers) (progress_of (opened scripts) thread)
    ∙ sym (progress_of-picked (is_left workers (dealt_count + 1)) (opened scripts) thread refl))
  where
    by : (number : ℕ) (found : Option Progress) → (if number == dealt_count then None else (if not (nat_lt number dealt_count) then found else None)) ≡ (if not (nat_lt number (dealt_count + 1)) then found else None)
    by number found = grind (arith, nat_tests)

module _ (heap : Heap) (scripts : Scripts) (first_jobs : Jobs) (bundles : List Bundle) (can_deal : CanBeDealt heap scripts first_jobs bundles) (workers index : ℕ) (bundle : Bundle) (left_jobs : Jobs)
    (count : workers ≡ length bundles) (bundle_there : slice_get bundles index ≡ Some bundle) (left_is : left_jobs ≡ left_after workers index scripts) where
  few : length scripts ≤ 8
  few = let few_mutators = (config_of heap).in_range.most_mutators in omega (arith, can_deal.count, few_mutators)

  job_at : (mutator : ℕ) → progress_of (parted workers index left_jobs) mutator ≡ (if mutator % workers == index then option_map begun (slice_get scripts mutator) else None)
  job_at mutator =
      ap (λ jobs. progress_of (parted workers index jobs) mutator) left_is
      ∙ progress_of-parted workers index (left_after workers index scripts) mutator refl
      ∙ ap (λ found. if is_in_part workers index mutator then found else None) (progress_of-picked (is_left workers index) (opened scripts) mutator refl)
      ∙ by (mutator % workers) (progress_of (opened scripts) mutator)
      ∙ ap (λ found. if mutator % workers == index then found else None) (progress_of-opened scripts mutator few)
    where
      by : (number : ℕ) (found : Option Progress) → (if number == index then (if not (nat_lt number index) then found else None) else None) ≡ (if number == index then found else None)
      by number found = grind (arith, nat_tests)

  fresh : IsFresh heap bundle (dealt_to workers index (whole (heap_opening (config_of heap)).machines))
  fresh = subst (λ worker_count. IsFresh heap bundle (dealt_to worker_count index (whole (heap_opening (config_of heap)).machines))) (sym count) (can_deal.fresh index bundle bundle_there)

  some_begun : (found : Option (List Command)) → is_some (option_map begun found) ≡ is_some found
  some_begun None = refl
  some_begun (Some script) = refl

  pub ready_part : PartIsReady heap (by_scripts scripts) workers index (index + 1) (record { bundle = bundle; load = Scripted (parted workers index left_jobs) })
  ready_part = record {
    has = record {
      of = fresh.of;
      machines = λ machine_number.
          ap (λ view. is_some (machine_of view machine_number)) fresh.machines
          ∙ ap is_some (machine_of-picked (is_dealt_to workers index) (whole (heap_opening (config_of heap)).machines) machine_number)
          ∙ one_dealt (machine_of (whole (heap_opening (config_of heap)).machines) machine_number) (nat_lt machine_number (seat_count (config_of heap).mutators (config_of heap).helpers)) (machine_number % workers) index
          (ap is_some (machine_of-whole (heap_opening (config_of heap)).machines machine_number) ∙ some_within (heap_opening (config_of heap)).machines machine_number nobody ∙ ap (nat_lt machine_number) (first_count (config_of heap)));
    };
    load = record {
      numbers = λ machine_number.
          ap is_some (job_at machine_number)
          ∙ one_dealt (option_map begun (slice_get scripts machine_number)) (nat_lt machine_number (config_of heap).mutators) (machine_number % workers) index
          (some_begun (slice_get scripts machine_number) ∙ some_within scripts machine_number [] ∙ ap (nat_lt machine_number) can_deal.count);
      scripts_are = λ script_index has_script. script_at script_index (script_index % workers == index) (slice_get scripts script_index) refl (progress_of (parted workers index left_jobs) script_index) (job_at script_index) has_script;
    };
    start = fresh_can_start heap bundle (config_of heap) workers index (parted workers index left_jobs) fresh (λ machine_number number_below dealt.
        let number_within : machine_number < length scripts = omega (arith, number_below, can_deal.count) in (
          get_or scripts machine_number [],
          job_at machine_number ∙ ap (λ holds. if holds then option_map begun (slice_get scripts machine_number) else None) dealt ∙ ap (option_map begun) (slice_get-get_or scripts machine_number [] number_within),
          (All-get_or IsRunnable scripts machine_number [] number_within can_deal.runnable).0,
          (All-get_or IsRunnable scripts machine_number [] number_within can_deal.runnable).1,
        ));
  }
    where
      script_at : (number : ℕ) (holds : Bool) (found : Option (List Command)) → slice_get scripts number ≡ found → (given_progress : Option Progress) → given_progress ≡ (if holds then option_map begun (slice_get scripts number) else None) → IsSome given_progress → (unwrap_or given_progress (begun [])).script ≡ schedule.nth_script scripts number
      script_at number false found script_found given_progress progress_is has_progress = absurd (false≢true (subst (λ progress. IsSome progress) progress_is has_progress))
      script_at number true None script_found given_progress progress_is has_progress = absurd (false≢true (subst (λ progress. IsSome progress) (progress_is ∙ ap (option_map begun) script_found) has_progress))
      script_at number true (Some script) script_found given_progress progress_is has_progress = ap (λ progress. (unwrap_or progress (begun [])).script) (progress_is ∙ ap (option_map begun) script_found) ∙ sym (get_or_from_slice_get scripts number script [] script_found)

-- the bundles that a heap was opened with
pub can_be_dealt : (heap : Heap) (config : Config) (scripts : Scripts) (jobs : Jobs) (bundles : List Bundle) (workers : ℕ) → config_of heap ≡ config → length bundles ≡ workers
    → ((index : ℕ) (bundle : Bundle) → slice_get bundles index ≡ Some bundle → IsFresh heap bundle (dealt_to workers index (whole (heap_opening config).machines))) → jobs ≡ opened scripts → length scripts ≡ config.mutators → All IsRunnable scripts
    → CanBeDealt heap scripts jobs bundles
can_be_dealt heap heap_config scripts jobs bundles workers config count fresh jobs_are same_count runnable = record {
  fresh = λ index bundle bundle_there.
      subst (λ worker_count. IsFresh heap bundle (dealt_to worker_count index (whole (heap_opening (config_of heap)).machines))) (sym count)
      (subst (λ (config : Config). IsFresh heap bundle (dealt_to workers index (whole (heap_opening config).machines))) (sym config) (fresh index bundle bundle_there));
  jobs_are = jobs_are;
  count = same_count ∙ ap (λ (config : Config). config.mutators) (sym config);
  runnable = runnable;
}
