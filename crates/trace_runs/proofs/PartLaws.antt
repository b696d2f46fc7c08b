-- Parts of a heap's machines: dealt, joined and run.
use Rattle.std.proofs.Common.{◌≡◌, ◌⊎◌, inl, inr, ⊎_elim, ℕ, ◌+◌, ◌-◌, ◌<◌, ◌≤◌, ◌&&◌, ◌||◌, Bool, true, false, List, [], ◌++◌, length, All, Option, Some, None, refl, sym, ap, ◌∙◌, subst, arith}
use Rattle.std.specs.Prelude.{◌%◌, nat_lt, nat_le, unwrap_or, IsSome, slice_get, min}
use Rattle.std.proofs.Math.Nat.{mod-eq_of_lt}
use Rattle.std.proofs.lemmas.List.{length-append}
use Rattle.std.proofs.lemmas.List.Elements.{All-append}
use Rattle.std.specs.Option.{is_some}
use Rattle.std.proofs.lemmas.List.{get_or_past}
use Rattle.std.proofs.lemmas.List.FromFn.{get_or-map-range_with_len}
use Rattle.std.proofs.lemmas.Bool.{cases_lt, ltb-true, false≢true, and_parts}
use Rattle.std.proofs.lemmas.Bool.Decides.{nat_tests}
use Rattle.shen_graph.proofs.Options.{none_if_not_some}
use Rattle.heap_words.specs.declared.config.Config.{Config}
use Rattle.heap_words.specs.Ranges.{seat_count}
use Rattle.shen_graph.specs.declared.order.Order.{Order}
use Rattle.shen_graph.specs.declared.order.Order.TheVariants.{Nothing}
use Rattle.shen_graph.specs.Valid.{IsValid, most_objects}
use Rattle.shen_graph.specs.Work.{Progress, progress_of, replies_of, begun, one_of, joined}
use Rattle.managed_queue.specs.Users.{Use, to_come}
use Rattle.shared_table.specs.Views as views
use Rattle.shared_table.specs.Views.{View, machine_of, merged}
use Rattle.shared_table.proofs.Kept.{kept_here, machine_of-kept}
use Rattle.shared_table.proofs.ViewsShow.{machine_of-merged}
use Rattle.step_core.specs.Actor.{Actor}
use Rattle.step_core.specs.Schedule.{Scripts}
use Rattle.step_core.specs.Schedule as schedule
use Rattle.heap_machines.specs.Roles.{is_mutating}
use Rattle.heap_machines.specs.Shown.{shown}
use Rattle.table_heap.specs.declared.bundle.Bundle.{Bundle}
use Rattle.table_heap.specs.declared.heap.Heap.{Heap}
use Rattle.table_heap.specs.Core.{machine_in}
use Rattle.table_heap.specs.State.{config_of, config_in, view_of, orders_of, IsBundleOf}
use Rattle.table_heap.specs.Running.{Jobs, HasNoOrder, EachMutator, CanStart, CanStartOn, HasDone}
use Rattle.table_heap.specs.Driving.{has_mutator, mutators_below, CanDrive}
use Rattle.table_heap.proofs.Running.{still_of}
use Rattle.trace_runs.specs.declared.load.Load.{Load}
use Rattle.trace_runs.specs.declared.load.Load.TheVariants.{Scripted, Driven}
use Rattle.trace_runs.specs.declared.parts.Part.{Part}
use Rattle.trace_runs.specs.DealtParts.{Assigned, CanBeRunBy, HaveEnded, PartHasEnded, LoadsAreApart, IsJoined, is_dealt, IsPart, HasScripts, IsCrewed, IsLoad, crew_of, HasUsed, LoadIsDone, PartIsReady, IsDone}
use Rattle.trace_runs.specs.DealtParts.Assigned.{scripts, users}
use Rattle.trace_runs.proofs.Crews.{crew_count, crew_joined, crew_at, at_front, at_back, span}

-- ---- tests and options

-- what is dealt to the first bundles is not dealt to the others
never_both : (holds other_holds : Bool) (number first beyond other_beyond : ℕ) → (holds && (nat_le first number && nat_lt number beyond)) ≡ true → (other_holds && (nat_le beyond number && nat_lt number other_beyond)) ≡ false
never_both false holds number first beyond other_beyond dealt_first = absurd cc
never_both true false number first beyond other_beyond dealt_first = refl
never_both true true number first beyond other_beyond dealt_first = grind (arith, nat_tests)

-- the two have what is dealt to all of them
either_of : (holds : Bool) (number first beyond other_beyond : ℕ) → first ≤ beyond → beyond ≤ other_beyond → ((holds && (nat_le first number && nat_lt number beyond)) || (holds && (nat_le beyond number && nat_lt number other_beyond))) ≡ (holds && (nat_le first number && nat_lt number other_beyond))
either_of false number first beyond other_beyond first_before beyond_before = refl
either_of true number first beyond other_beyond first_before beyond_before = grind (arith, nat_tests)

first_of : (found : Option Progress) → one_of found None ≡ found
first_of None = refl
first_of (Some progress) = refl

some_of : {R : Type 0} (found other_found : Option R) → is_some (views.whichever_is_there found other_found) ≡ (is_some found || is_some other_found)
some_of None found = refl
some_of (Some r) found = refl

some_job : (found other_found : Option Progress) → is_some (one_of found other_found) ≡ (is_some found || is_some other_found)
some_job None found = refl
some_job (Some progress) found = refl

-- ---- scripts

-- a part has no scripts past those of the mutators
no_script : (config : Config) (all_scripts : Scripts) (workers first beyond : ℕ) (jobs : Jobs) → HasScripts config all_scripts workers first beyond jobs → (number : ℕ) → 8 ≤ number → progress_of jobs number ≡ None
no_script config all_scripts workers first beyond jobs has_scripts script_number past_last = none_if_not_some (progress_of jobs script_number) (has_scripts.numbers script_number ∙ outside script_number config.mutators (is_dealt workers first beyond script_number) config.in_range.most_mutators past_last)
  where
    outside : (mutator limit : ℕ) (holds : Bool) → limit ≤ 8 → 8 ≤ mutator → (nat_lt mutator limit && holds) ≡ false
    outside mutator limit holds few_mutators number_past = grind (arith, nat_tests)

progress_joined : (jobs other_jobs : Jobs) (number : ℕ) → (8 ≤ number → progress_of jobs number ≡ None) → (8 ≤ number → progress_of other_jobs number ≡ None) → progress_of (joined jobs other_jobs) number ≡ one_of (progress_of jobs number) (progress_of other_jobs number)
progress_joined jobs other_jobs number none_past none_there = ⊎_elim
    (λ (number_below : number < 8). get_or-map-range_with_len (λ mutator. one_of (progress_of jobs mutator) (progress_of other_jobs mutator)) 0 8 number number None number_below (omega arith))
    (λ (number_past : 8 ≤ number). get_or_past (joined jobs other_jobs) number None number_past ∙ sym (ap (λ progress. one_of progress (progress_of other_jobs number)) (none_past number_past) ∙ none_there number_past))
    (cases_lt number 8)

-- what is known of a mutator that can start is known of its script
start_by : (jobs other_jobs : Jobs) (number : ℕ) (actor : Actor) → progress_of jobs number ≡ progress_of other_jobs number → CanStartOn jobs number actor → CanStartOn other_jobs number actor
start_by jobs other_jobs number actor same_progress can_start = record {
  calls = can_start.calls;
  rest = can_start.rest;
  free = can_start.free;
  made = can_start.made;
  script = subst (λ progress. IsSome progress) same_progress can_start.script;
  replies = ap (λ progress. (unwrap_or progress (begun [])).replies) (sym same_progress) ∙ can_start.replies;
  commands = subst (λ progress. All IsValid (unwrap_or progress (begun [])).script) same_progress can_start.commands;
  few = subst (λ progress. length (unwrap_or progress (begun [])).script < most_objects) same_progress can_start.few;
}

-- the scripts of two parts
module _ (config : Config) (all_scripts : Scripts) (workers first beyond other_beyond : ℕ) (first_before : first ≤ beyond) (beyond_before : beyond ≤ other_beyond) (jobs other_jobs : Jobs) (first_scripts : HasScripts config all_scripts workers first beyond jobs) (second_scripts : HasScripts config all_scripts workers beyond other_beyond other_jobs) where
  job_here : (number : ℕ) → progress_of (joined jobs other_jobs) number ≡ one_of (progress_of jobs number) (progress_of other_jobs number)
  job_here number = progress_joined jobs other_jobs number (no_script config all_scripts workers first beyond jobs first_scripts number) (no_script config all_scripts workers beyond other_beyond other_jobs second_scripts number)

  pub scripts_joined : HasScripts config all_scripts workers first other_beyond (joined jobs other_jobs)
  scripts_joined = record {
    numbers = λ asked_number.
        ap is_some (job_here asked_number) ∙ some_job (progress_of jobs asked_number) (progress_of other_jobs asked_number)
        ∙ ap (λ test. test || is_some (progress_of other_jobs asked_number)) (first_scripts.numbers asked_number)
        ∙ ap (λ test. (nat_lt asked_number config.mutators && is_dealt workers first beyond asked_number) || test) (second_scripts.numbers asked_number)
        ∙ either_of (nat_lt asked_number config.mutators) (asked_number % workers) first beyond other_beyond first_before beyond_before;
    scripts_are = λ number has_script. script_is number (progress_of jobs number) (progress_of other_jobs number) (first_scripts.scripts_are number) (second_scripts.scripts_are number) (progress_of (joined jobs other_jobs) number) (job_here number) has_script;
  }
    where
      script_is : (number : ℕ) (first_progress second_progress : Option Progress) → (IsSome first_progress → (unwrap_or first_progress (begun [])).script ≡ schedule.nth_script all_scripts number) → (IsSome second_progress → (unwrap_or second_progress (begun [])).script ≡ schedule.nth_script all_scripts number)
          → (joined_progress : Option Progress) → joined_progress ≡ one_of first_progress second_progress → IsSome joined_progress → (unwrap_or joined_progress (begun [])).script ≡ schedule.nth_script all_scripts number
      script_is number None second_progress first_script second_script joined_progress joined_is has_progress = ap (λ progress. (unwrap_or progress (begun [])).script) joined_is ∙ second_script (subst (λ progress. IsSome progress) joined_is has_progress)
      script_is number (Some first_progress) second_progress first_script second_script joined_progress joined_is has_progress = ap (λ progress. (unwrap_or progress (begun [])).script) joined_is ∙ first_script refl

  -- the work of the first has what both have of a machine that is dealt to the first, and no other
  pub job_in_first : (number : ℕ) → is_dealt workers first beyond number ≡ true → progress_of jobs number ≡ progress_of (joined jobs other_jobs) number
  job_in_first number dealt =
      let no_job : progress_of other_jobs number ≡ None = none_if_not_some (progress_of other_jobs number) (second_scripts.numbers number ∙ not_both (nat_lt number config.mutators) (number % workers) dealt) in
      sym (job_here number ∙ ap (one_of (progress_of jobs number)) no_job ∙ first_of (progress_of jobs number))
    where
      not_both : (holds : Bool) (number : ℕ) → (nat_le first number && nat_lt number beyond) ≡ true → (holds && (nat_le beyond number && nat_lt number other_beyond)) ≡ false
      not_both false number dealt_first = refl
      not_both true number dealt_first = grind (arith, nat_tests)

  pub job_in_second : (number : ℕ) → is_dealt workers beyond other_beyond number ≡ true → progress_of other_jobs number ≡ progress_of (joined jobs other_jobs) number
  job_in_second number dealt =
      let no_job : progress_of jobs number ≡ None = none_if_not_some (progress_of jobs number) (first_scripts.numbers number ∙ not_both (nat_lt number config.mutators) (number % workers) dealt) in
      sym (job_here number ∙ ap (λ progress. one_of progress (progress_of other_jobs number)) no_job)
    where
      not_both : (holds : Bool) (number : ℕ) → (nat_le beyond number && nat_lt number other_beyond) ≡ true → (holds && (nat_le first number && nat_lt number beyond)) ≡ false
      not_both false number dealt_second = refl
      not_both true number dealt_second = grind (arith, nat_tests)

  pub scripts_apart : LoadsAreApart (Scripted jobs) (Scripted other_jobs)
  scripts_apart shared_mutator first_script second_script =
      false≢true (sym (never_both (nat_lt shared_mutator config.mutators) (nat_lt shared_mutator config.mutators) (shared_mutator % workers) first beyond other_beyond (sym (first_scripts.numbers shared_mutator) ∙ first_script)) ∙ sym (second_scripts.numbers shared_mutator) ∙ second_script)

-- ---- what parts of different bundles are run by

-- what is known both before a run and after it
abbrev HasShape : Config → Assigned → (workers first beyond : ℕ) → Load → Type 0
HasShape config (scripts all_scripts) workers first beyond (Scripted jobs) = HasScripts config all_scripts workers first beyond jobs
HasShape config (users firsts) workers first beyond (Driven crew) = IsCrewed config firsts workers × (length crew.items ≡ length (crew_of firsts first beyond))
HasShape config _ workers first beyond _ = ⊥

shape_before : (config : Config) (assigned : Assigned) (workers first beyond : ℕ) (load : Load) → IsLoad config assigned workers first beyond load → HasShape config assigned workers first beyond load
shape_before config (scripts all_scripts) workers first beyond (Scripted jobs) is_load = is_load
shape_before config (scripts all_scripts) workers first beyond (Driven crew) is_load = is_load
shape_before config (users firsts) workers first beyond (Scripted jobs) is_load = is_load
shape_before config (users firsts) workers first beyond (Driven crew) is_load = (is_load.0, ap length is_load.1)

shape_after : (config : Config) (assigned : Assigned) (workers first beyond : ℕ) (view : View Actor) (load : Load) → LoadIsDone config assigned workers first beyond view load → HasShape config assigned workers first beyond load
shape_after config (scripts all_scripts) workers first beyond view (Scripted jobs) is_done = is_done.0
shape_after config (scripts all_scripts) workers first beyond view (Driven crew) is_done = is_done
shape_after config (users firsts) workers first beyond view (Scripted jobs) is_done = is_done
shape_after config (users firsts) workers first beyond view (Driven crew) is_done = (is_done.0, is_done.1)

-- there is room for all users of a heap
crews_fit : (firsts : List Use) (first beyond other_beyond mutators first_count second_count : ℕ) → first ≤ beyond → beyond ≤ other_beyond → length firsts ≡ mutators → mutators ≤ 8 → first_count ≡ length (crew_of firsts first beyond) → second_count ≡ length (crew_of firsts beyond other_beyond) → first_count + second_count ≤ 8
crews_fit firsts first beyond other_beyond mutators first_count second_count first_before beyond_before count at_most first_is second_is =
    let first_crew = crew_count firsts first beyond in
    let second_crew = crew_count firsts beyond other_beyond in
    omega (arith, first_is, first_crew, second_is, second_crew, count, at_most, first_before, beyond_before)

shapes_apart : (config : Config) (assigned : Assigned) (workers first beyond other_beyond : ℕ) → first ≤ beyond → beyond ≤ other_beyond → (load other_load : Load) → HasShape config assigned workers first beyond load → HasShape config assigned workers beyond other_beyond other_load → LoadsAreApart load other_load
shapes_apart config (scripts all_scripts) workers first beyond last_beyond first_before beyond_before (Scripted first_work) (Scripted second_work) first_shape second_shape = scripts_apart config all_scripts workers first beyond last_beyond first_before beyond_before first_work second_work first_shape second_shape
shapes_apart config (scripts all_scripts) workers first beyond last_beyond first_before beyond_before (Scripted first_work) (Driven second_work) first_shape second_shape = second_shape
shapes_apart config (scripts all_scripts) workers first beyond last_beyond first_before beyond_before (Driven first_work) load first_shape second_shape = absurd first_shape
shapes_apart config (users firsts) workers first beyond last_beyond first_before beyond_before (Scripted first_work) load first_shape second_shape = absurd first_shape
shapes_apart config (users firsts) workers first beyond last_beyond first_before beyond_before (Driven first_work) (Scripted second_work) first_shape second_shape = second_shape
shapes_apart config (users firsts) workers first beyond last_beyond first_before beyond_before (Driven first_work) (Driven second_work) first_shape second_shape =
    crews_fit firsts first beyond last_beyond config.mutators (length first_work.items) (length second_work.items) first_before beyond_before first_shape.0.count config.in_range.most_mutators first_shape.1 second_shape.1

pub apart_before : (heap : Heap) (assigned : Assigned) (workers first beyond other_beyond : ℕ) (part other_part : Part) → first ≤ beyond → beyond ≤ other_beyond → PartIsReady heap assigned workers first beyond part → PartIsReady heap assigned workers beyond other_beyond other_part → LoadsAreApart part.load other_part.load
apart_before heap assigned workers first beyond other_beyond part other_part first_before beyond_before ready other_ready =
    shapes_apart (config_of heap) assigned workers first beyond other_beyond first_before beyond_before part.load other_part.load (shape_before (config_of heap) assigned workers first beyond part.load ready.load) (shape_before (config_of heap) assigned workers beyond other_beyond other_part.load other_ready.load)

pub apart_after : (heap : Heap) (assigned : Assigned) (workers first beyond other_beyond : ℕ) (part other_part : Part) → first ≤ beyond → beyond ≤ other_beyond → IsDone heap assigned workers first beyond part → IsDone heap assigned workers beyond other_beyond other_part → LoadsAreApart part.load other_part.load
apart_after heap assigned workers first beyond other_beyond part other_part first_before beyond_before first_done second_done =
    shapes_apart (config_of heap) assigned workers first beyond other_beyond first_before beyond_before part.load other_part.load (shape_after (config_of heap) assigned workers first beyond (view_of part.bundle) part.load first_done.load) (shape_after (config_of heap) assigned workers beyond other_beyond (view_of other_part.bundle) other_part.load second_done.load)

-- ---- the machines of a part

-- a machine of a bundle is a mutator by its number
role_of : (bundle : Bundle) (number : ℕ) (actor : Actor) → machine_of (view_of bundle) number ≡ Some actor → is_mutating actor.machine ≡ nat_lt number bundle.config.mutators
role_of bundle number actor machine_there =
    let kept_there : machine_of (views.kept_in_view shown bundle.machines.items) number ≡ Some actor.machine =
    ap (λ kept_view. machine_of kept_view number) (sym bundle.kept) ∙ machine_of-kept machine_in (view_of bundle) number ∙ ap (views.kept_one machine_in) machine_there in
    let found_machine = kept_here shown bundle.machines.items number actor.machine kept_there in
    ap is_mutating (sym found_machine.2) ∙ (bundle.of_heap number found_machine.0 found_machine.1).role

module _ (heap : Heap) (workers first beyond : ℕ) (part : Part) (is_part : IsPart heap workers first beyond part) where
  -- each is dealt to these bundles
  pub its_dealt : (number : ℕ) (actor : Actor) → machine_of (view_of part.bundle) number ≡ Some actor → is_dealt workers first beyond number ≡ true
  its_dealt number actor machine_there = (and_parts (nat_lt number (seat_count (config_of heap).mutators (config_of heap).helpers)) (is_dealt workers first beyond number) (sym (is_part.machines number) ∙ ap is_some machine_there)).1

  pub its_number : (number : ℕ) (actor : Actor) → machine_of (view_of part.bundle) number ≡ Some actor → is_mutating actor.machine ≡ true → nat_lt number (config_of heap).mutators ≡ true
  its_number number actor machine_there role = ap (λ (config : Config). nat_lt number config.mutators) (sym is_part.of.config) ∙ sym (role_of part.bundle number actor machine_there) ∙ role

  -- where there is a bundle for each machine, the bundle's number is the machine's
  module _ (first_before : first ≤ beyond) (single : workers ≡ seat_count (config_of heap).mutators (config_of heap).helpers) where
    same_number : (number : ℕ) → number < (config_of heap).mutators → number % workers ≡ number
    same_number number number_below = mod-eq_of_lt (let below_workers : number < workers = omega (arith, number_below, single) in below_workers)

    mutator_here : (number : ℕ) → number < (config_of heap).mutators → has_mutator part.bundle number ≡ (nat_le first number && nat_lt number beyond)
    mutator_here n mutator_below =
        ap (λ has_machine. has_machine && nat_lt n (config_in part.bundle).mutators) (is_part.machines n)
        ∙ ap (λ (config : Config). (nat_lt n (seat_count (config_of heap).mutators (config_of heap).helpers) && is_dealt workers first beyond n) && nat_lt n config.mutators) is_part.of.config
        ∙ ap (λ any_number. (nat_lt n (seat_count (config_of heap).mutators (config_of heap).helpers) && (nat_le first any_number && nat_lt any_number beyond)) && nat_lt n (config_of heap).mutators) (same_number n mutator_below)
        ∙ by_tests n (config_of heap).mutators (config_of heap).helpers (nat_le first n && nat_lt n beyond) mutator_below
      where
        by_tests : (n mutator_count helper_count : ℕ) (holds : Bool) → n < mutator_count → ((nat_lt n (mutator_count + helper_count + 1) && holds) && nat_lt n mutator_count) ≡ holds
        by_tests n mutator_count helper_count true number_below = grind (arith, nat_tests)
        by_tests n mutator_count helper_count false number_below = grind (arith, nat_tests)

    pub below_here : (limit : ℕ) → limit ≤ (config_of heap).mutators → mutators_below part.bundle limit ≡ min beyond limit - first
    below_here limit limit_most = span (has_mutator part.bundle) first beyond (config_of heap).mutators first_before mutator_here limit limit_most

    -- there are as many users of these bundles as mutators
    pub crew_counts : (firsts : List Use) → IsCrewed (config_of heap) firsts workers → length (crew_of firsts first beyond) ≡ mutators_below part.bundle (config_in part.bundle).mutators
    crew_counts firsts crewed =
        crew_count firsts first beyond ∙ ap (λ x. min beyond x - first) crewed.count
        ∙ sym (below_here (config_of heap).mutators (omega arith))
        ∙ ap (λ (config : Config). mutators_below part.bundle config.mutators) (sym is_part.of.config)

    -- a mutator's number is in the range of the bundles
    pub its_range : (number : ℕ) (actor : Actor) → machine_of (view_of part.bundle) number ≡ Some actor → number < (config_of heap).mutators → (first ≤ number) × (number < beyond)
    its_range number given_actor machine_there number_below =
        let dealt = and_parts (nat_le first number) (nat_lt number beyond) (ap (λ any_number. nat_le first any_number && nat_lt any_number beyond) (sym (same_number number number_below)) ∙ its_dealt number given_actor machine_there) in
        (from_le first number dealt.0, ltb-true number beyond dealt.1)
      where
        from_le : (given_actor y : ℕ) → nat_le given_actor y ≡ true → given_actor ≤ y
        from_le given_actor y test_true = grind (arith, nat_tests)

    pub its_place : (number : ℕ) (actor : Actor) → machine_of (view_of part.bundle) number ≡ Some actor → number < (config_of heap).mutators → mutators_below part.bundle number ≡ number - first
    its_place number actor machine_there number_below =
        let range = its_range number actor machine_there number_below in
        let first_under = range.1 in
        below_here number (omega (arith, number_below)) ∙ (let same_place : min beyond number - first ≡ number - first = omega (arith, first_under) in same_place)

-- ---- two parts joined

module _ (heap : Heap) (assigned : Assigned) (workers first beyond other_beyond : ℕ) (part other_part joint_part : Part) (of_heap : IsBundleOf joint_part.bundle heap) (view : view_of joint_part.bundle ≡ merged (view_of part.bundle) (view_of other_part.bundle))
    (loads : IsJoined part.load other_part.load joint_part.load) (first_before : first ≤ beyond) (beyond_before : beyond ≤ other_beyond) (first_part : IsPart heap workers first beyond part) (second_part : IsPart heap workers beyond other_beyond other_part) where
  machine_here : (number : ℕ) → machine_of (view_of joint_part.bundle) number ≡ views.whichever_is_there (machine_of (view_of part.bundle) number) (machine_of (view_of other_part.bundle) number)
  machine_here number = ap (λ any_view. machine_of any_view number) view ∙ machine_of-merged (view_of part.bundle) (view_of other_part.bundle) number

  pub joined_part : IsPart heap workers first other_beyond joint_part
  joined_part = record {
    of = of_heap;
    machines = λ number.
        ap is_some (machine_here number) ∙ some_of (machine_of (view_of part.bundle) number) (machine_of (view_of other_part.bundle) number)
        ∙ ap (λ test. test || is_some (machine_of (view_of other_part.bundle) number)) (first_part.machines number)
        ∙ ap (λ test. (nat_lt number (seat_count (config_of heap).mutators (config_of heap).helpers) && is_dealt workers first beyond number) || test) (second_part.machines number)
        ∙ either_of (nat_lt number (seat_count (config_of heap).mutators (config_of heap).helpers)) (number % workers) first beyond other_beyond first_before beyond_before;
  }

  -- a machine is one of the first part or of the second
  by_side : (number : ℕ) (actor : Actor) → machine_of (view_of joint_part.bundle) number ≡ Some actor → (machine_of (view_of part.bundle) number ≡ Some actor) ⊎ (machine_of (view_of other_part.bundle) number ≡ Some actor)
  by_side number actor machine_there = by_machine (machine_of (view_of part.bundle) number) refl
    where
      by_machine : (found : Option Actor) → machine_of (view_of part.bundle) number ≡ found → (machine_of (view_of part.bundle) number ≡ Some actor) ⊎ (machine_of (view_of other_part.bundle) number ≡ Some actor)
      by_machine None found_is = inr (sym (ap (λ found. views.whichever_is_there found (machine_of (view_of other_part.bundle) number)) found_is) ∙ sym (machine_here number) ∙ machine_there)
      by_machine (Some found_actor) found_is = inl (found_is ∙ sym (ap (λ found. views.whichever_is_there found (machine_of (view_of other_part.bundle) number)) found_is) ∙ sym (machine_here number) ∙ machine_there)

  orders_joined : orders_of joint_part.bundle ≡ merged (orders_of part.bundle) (orders_of other_part.bundle) → HasNoOrder part.bundle → HasNoOrder other_part.bundle → HasNoOrder joint_part.bundle
  orders_joined orders no_first_order no_second_order n order order_here =
      by_order n order (machine_of (orders_of part.bundle) n) refl (sym (machine_of-merged (orders_of part.bundle) (orders_of other_part.bundle) n) ∙ ap (λ any_view. machine_of any_view n) (sym orders) ∙ order_here)
    where
      by_order : (number : ℕ) (order : Order) (found : Option Order) → machine_of (orders_of part.bundle) number ≡ found → views.whichever_is_there (machine_of (orders_of part.bundle) number) (machine_of (orders_of other_part.bundle) number) ≡ Some order → order ≡ Nothing
      by_order number order None found_is order_there = no_second_order number order (sym (ap (λ found. views.whichever_is_there found (machine_of (orders_of other_part.bundle) number)) found_is) ∙ order_there)
      by_order number order (Some found_order) found_is order_there = no_first_order number order (found_is ∙ sym (ap (λ found. views.whichever_is_there found (machine_of (orders_of other_part.bundle) number)) found_is) ∙ order_there)

  -- scripts
  module _ (all_scripts : Scripts) (first_jobs second_jobs : Jobs) (first_scripts : HasScripts (config_of heap) all_scripts workers first beyond first_jobs) (second_scripts : HasScripts (config_of heap) all_scripts workers beyond other_beyond second_jobs) where
    starts_joined : orders_of joint_part.bundle ≡ merged (orders_of part.bundle) (orders_of other_part.bundle) → CanStart part.bundle first_jobs → CanStart other_part.bundle second_jobs → CanStart joint_part.bundle (joined first_jobs second_jobs)
    starts_joined orders can_start can_too = record {
      orders = orders_joined orders can_start.orders can_too.orders;
      mutators = λ seat actor actor_there role. by_start seat actor role (by_side seat actor actor_there);
    }
      where
        by_start : (number : ℕ) (actor : Actor) → is_mutating actor.machine ≡ true → (machine_of (view_of part.bundle) number ≡ Some actor) ⊎ (machine_of (view_of other_part.bundle) number ≡ Some actor) → CanStartOn (joined first_jobs second_jobs) number actor
        by_start number actor role (inl machine_there) = start_by first_jobs (joined first_jobs second_jobs) number actor (job_in_first (config_of heap) all_scripts workers first beyond other_beyond first_before beyond_before first_jobs second_jobs first_scripts second_scripts number (its_dealt heap workers first beyond part first_part number actor machine_there)) (can_start.mutators number actor machine_there role)
        by_start number actor role (inr machine_there) = start_by second_jobs (joined first_jobs second_jobs) number actor (job_in_second (config_of heap) all_scripts workers first beyond other_beyond first_before beyond_before first_jobs second_jobs first_scripts second_scripts number (its_dealt heap workers beyond other_beyond other_part second_part number actor machine_there)) (can_too.mutators number actor machine_there role)

    done_joined : EachMutator (view_of part.bundle) (λ number actor. HasDone (schedule.nth_script all_scripts number) (replies_of first_jobs number) actor) → EachMutator (view_of other_part.bundle) (λ number actor. HasDone (schedule.nth_script all_scripts number) (replies_of second_jobs number) actor)
        → EachMutator (view_of joint_part.bundle) (λ number actor. HasDone (schedule.nth_script all_scripts number) (replies_of (joined first_jobs second_jobs) number) actor)
    done_joined did did_too number x machine_there role = by_done (by_side number x machine_there)
      where
        by_done : (machine_of (view_of part.bundle) number ≡ Some x) ⊎ (machine_of (view_of other_part.bundle) number ≡ Some x) → HasDone (schedule.nth_script all_scripts number) (replies_of (joined first_jobs second_jobs) number) x
        by_done (inl side) =
            subst (λ progress. HasDone (schedule.nth_script all_scripts number) (unwrap_or progress (begun [])).replies x) (job_in_first (config_of heap) all_scripts workers first beyond other_beyond first_before beyond_before first_jobs second_jobs first_scripts second_scripts number (its_dealt heap workers first beyond part first_part number x side)) (did number x side role)
        by_done (inr side) =
            subst (λ progress. HasDone (schedule.nth_script all_scripts number) (unwrap_or progress (begun [])).replies x) (job_in_second (config_of heap) all_scripts workers first beyond other_beyond first_before beyond_before first_jobs second_jobs first_scripts second_scripts number (its_dealt heap workers beyond other_beyond other_part second_part number x side)) (did_too number x side role)

  -- users
  module _ (firsts : List Use) (crewed : IsCrewed (config_of heap) firsts workers) (first_users second_users all_users : List Use) (joined_is : all_users ≡ first_users ++ second_users) where
    -- there are as many users of all as mutators
    count_joined : first_users ≡ crew_of firsts first beyond → second_users ≡ crew_of firsts beyond other_beyond → length all_users ≡ mutators_below joint_part.bundle (config_in joint_part.bundle).mutators
    count_joined first_crew second_crew =
        ap length (joined_is ∙ ap (λ xs. xs ++ second_users) first_crew ∙ ap (λ xs. crew_of firsts first beyond ++ xs) second_crew ∙ crew_joined firsts first beyond other_beyond first_before beyond_before)
        ∙ crew_counts heap workers first other_beyond joint_part joined_part (omega (arith, first_before, beyond_before)) crewed.single firsts crewed

    drive_joined : first_users ≡ crew_of firsts first beyond → second_users ≡ crew_of firsts beyond other_beyond → orders_of joint_part.bundle ≡ merged (orders_of part.bundle) (orders_of other_part.bundle) → CanDrive to_come part.bundle first_users → CanDrive to_come other_part.bundle second_users → CanDrive to_come joint_part.bundle all_users
    drive_joined first_crew second_crew orders can_drive can_too = record {
      orders = orders_joined orders can_drive.orders can_too.orders;
      mutators = λ number actor machine_there role. ⊎_elim (λ side. can_drive.mutators number actor side role) (λ side. can_too.mutators number actor side role) (by_side number actor machine_there);
      count = count_joined first_crew second_crew;
      few = subst (λ xs. All (λ (driver : Use). to_come driver < most_objects) xs) (sym joined_is) (All-append (λ (driver : Use). to_come driver < most_objects) first_users second_users can_drive.few can_too.few);
    }

    used_joined : length first_users ≡ length (crew_of firsts first beyond) → EachMutator (view_of part.bundle) (HasUsed firsts first_users first) → EachMutator (view_of other_part.bundle) (HasUsed firsts second_users beyond) → EachMutator (view_of joint_part.bundle) (HasUsed firsts all_users first)
    used_joined same_length did did_too n x machine_there role = by_used (by_side n x machine_there)
      where
        by_used : (machine_of (view_of part.bundle) n ≡ Some x) ⊎ (machine_of (view_of other_part.bundle) n ≡ Some x) → HasUsed firsts all_users first n x
        by_used (inl side) =
            let used_there = did n x side role in
            record { begun = used_there.begun; ended = used_there.ended; begun_is = used_there.begun_is; ended_is = ap (λ xs. slice_get xs (n - first)) joined_is ∙ at_front first_users second_users (n - first) used_there.ended used_there.ended_is; driven = used_there.driven }
        by_used (inr side) =
            let used_there = did_too n x side role in
            let number_below : n < (config_of heap).mutators = ltb-true n (config_of heap).mutators (its_number heap workers beyond other_beyond other_part second_part n x side role) in
            let range = its_range heap workers beyond other_beyond other_part second_part beyond_before crewed.single n x side number_below in
            let count = crew_count firsts first beyond in
            let number_least = range.0 in
            let users_counted = crewed.count in
            let same_place : n - first ≡ length first_users + (n - beyond) = omega (arith, same_length, count, number_below, users_counted, number_least, first_before) in
            record { begun = used_there.begun; ended = used_there.ended; begun_is = used_there.begun_is; ended_is = ap (λ xs. slice_get xs (n - first)) joined_is ∙ at_back first_users second_users (n - beyond) (n - first) used_there.ended same_place used_there.ended_is; driven = used_there.driven }

    count_after : length first_users ≡ length (crew_of firsts first beyond) → length second_users ≡ length (crew_of firsts beyond other_beyond) → length all_users ≡ length (crew_of firsts first other_beyond)
    count_after first_as_many second_as_many =
        ap length joined_is ∙ length-append first_users second_users ∙ ap (λ amount. amount + length second_users) first_as_many ∙ ap (λ amount. length (crew_of firsts first beyond) + amount) second_as_many
        ∙ sym (length-append (crew_of firsts first beyond) (crew_of firsts beyond other_beyond)) ∙ ap length (crew_joined firsts first beyond other_beyond first_before beyond_before)

  pub joined_ready : orders_of joint_part.bundle ≡ merged (orders_of part.bundle) (orders_of other_part.bundle) → PartIsReady heap assigned workers first beyond part → PartIsReady heap assigned workers beyond other_beyond other_part → PartIsReady heap assigned workers first other_beyond joint_part
  joined_ready orders mine others = record { has = joined_part; load = both.0; start = both.1 }
    where
      by_loads : (given_assigned : Assigned) (first_load second_load joined_load : Load) → IsJoined first_load second_load joined_load → IsLoad (config_of heap) given_assigned workers first beyond first_load → IsLoad (config_of heap) given_assigned workers beyond other_beyond second_load → CanBeRunBy part.bundle first_load → CanBeRunBy other_part.bundle second_load → IsLoad (config_of heap) given_assigned workers first other_beyond joined_load × CanBeRunBy joint_part.bundle joined_load
      by_loads (scripts all_scripts) (Scripted first_work) (Scripted second_work) (Scripted joined_work) are_joined first_load second_load can_run can_too = (
        subst (λ jobs. HasScripts (config_of heap) all_scripts workers first other_beyond jobs) (sym are_joined) (scripts_joined (config_of heap) all_scripts workers first beyond other_beyond first_before beyond_before first_work second_work first_load second_load),
        subst (λ jobs. CanStart joint_part.bundle jobs) (sym are_joined) (starts_joined all_scripts first_work second_work first_load second_load orders can_run can_too),
      )
      by_loads (users firsts) (Driven first_work) (Driven second_work) (Driven joined_work) are_joined first_load second_load can_run can_too = (
        (first_load.0, are_joined ∙ ap (λ xs. xs ++ second_work.items) first_load.1 ∙ ap (λ xs. crew_of firsts first beyond ++ xs) second_load.1 ∙ crew_joined firsts first beyond other_beyond first_before beyond_before),
        drive_joined firsts first_load.0 first_work.items second_work.items joined_work.items are_joined first_load.1 second_load.1 orders can_run can_too,
      )
      by_loads (scripts all_scripts) (Driven first_work) second_load joined_load are_joined first_load second_is can_run can_too = absurd first_load
      by_loads (users firsts) (Scripted first_work) second_load joined_load are_joined first_load second_is can_run can_too = absurd first_load
      by_loads given_assigned (Scripted first_work) (Driven second_work) joined_load are_joined first_load second_is can_run can_too = absurd are_joined
      by_loads given_assigned (Driven first_work) (Scripted second_work) joined_load are_joined first_load second_is can_run can_too = absurd are_joined
      by_loads given_assigned (Scripted first_work) (Scripted second_work) (Driven joined_work) are_joined first_load second_is can_run can_too = absurd are_joined
      by_loads given_assigned (Driven first_work) (Driven second_work) (Scripted joined_work) are_joined first_load second_is can_run can_too = absurd are_joined

      both : IsLoad (config_of heap) assigned workers first other_beyond joint_part.load × CanBeRunBy joint_part.bundle joint_part.load
      both = by_loads assigned part.load other_part.load joint_part.load loads mine.load others.load mine.start others.start

  pub joined_done : IsDone heap assigned workers first beyond part → IsDone heap assigned workers beyond other_beyond other_part → IsDone heap assigned workers first other_beyond joint_part
  joined_done first_done second_done = record {
    has = joined_part;
    idle = λ number actor machine_there. ⊎_elim (λ side. first_done.idle number actor side) (λ side. second_done.idle number actor side) (by_side number actor machine_there);
    load = by_loads assigned part.load other_part.load joint_part.load loads first_done.load second_done.load;
  }
    where
      by_loads : (given_assigned : Assigned) (first_load second_load joined_load : Load) → IsJoined first_load second_load joined_load → LoadIsDone (config_of heap) given_assigned workers first beyond (view_of part.bundle) first_load → LoadIsDone (config_of heap) given_assigned workers beyond other_beyond (view_of other_part.bundle) second_load → LoadIsDone (config_of heap) given_assigned workers first other_beyond (view_of joint_part.bundle) joined_load
      by_loads (scripts all_scripts) (Scripted first_work) (Scripted second_work) (Scripted joined_work) are_joined first_load second_load =
          subst (λ jobs. HasScripts (config_of heap) all_scripts workers first other_beyond jobs × EachMutator (view_of joint_part.bundle) (λ joined_load actor. HasDone (schedule.nth_script all_scripts joined_load) (replies_of jobs joined_load) actor)) (sym are_joined)
          (scripts_joined (config_of heap) all_scripts workers first beyond other_beyond first_before beyond_before first_work second_work first_load.0 second_load.0, done_joined all_scripts first_work second_work first_load.0 second_load.0 first_load.1 second_load.1)
      by_loads (users firsts) (Driven first_work) (Driven second_work) (Driven joined_work) are_joined first_load second_load =
          (first_load.0, count_after firsts first_load.0 first_work.items second_work.items joined_work.items are_joined first_load.1 second_load.1, used_joined firsts first_load.0 first_work.items second_work.items joined_work.items are_joined first_load.1 first_load.2 second_load.2)
      by_loads (scripts all_scripts) (Driven first_work) second_load joined_load are_joined first_load second_is = absurd first_load
      by_loads (users firsts) (Scripted first_work) second_load joined_load are_joined first_load second_is = absurd first_load
      by_loads given_assigned (Scripted first_work) (Driven second_work) joined_load are_joined first_load second_is = absurd are_joined
      by_loads given_assigned (Driven first_work) (Scripted second_work) joined_load are_joined first_load second_is = absurd are_joined
      by_loads given_assigned (Scripted first_work) (Scripted second_work) (Driven joined_work) are_joined first_load second_is = absurd are_joined
      by_loads given_assigned (Driven first_work) (Driven second_work) (Scripted joined_work) are_joined first_load second_is = absurd are_joined

-- ---- a part that has run

pub ended_done : (heap : Heap) (assigned : Assigned) (workers first beyond : ℕ) (part other_part : Part) → first ≤ beyond → PartIsReady heap assigned workers first beyond part → PartHasEnded part other_part → IsDone heap assigned workers first beyond other_part
ended_done heap assigned workers first beyond start_part end_part first_before ready ended = record {
  has = part;
  idle = ended.idle;
  load = by_loads assigned start_part.load end_part.load ready.load ended.done;
}
  where
    part : IsPart heap workers first beyond end_part
    part = record {
      of = still_of start_part.bundle end_part.bundle heap ended.same ready.has.of;
      machines = λ number. ended.same.numbers.here number ∙ ready.has.machines number;
    }

    has_job : (number : ℕ) (actor : Actor) → machine_of (view_of end_part.bundle) number ≡ Some actor → is_mutating actor.machine ≡ true → (nat_lt number (config_of heap).mutators && is_dealt workers first beyond number) ≡ true
    has_job number actor machine_there role = ap (λ is_mutator. is_mutator && is_dealt workers first beyond number) (its_number heap workers first beyond end_part part number actor machine_there role) ∙ its_dealt heap workers first beyond end_part part number actor machine_there

    by_loads : (other_assigned : Assigned) (start_load end_load : Load) → IsLoad (config_of heap) other_assigned workers first beyond start_load → HaveEnded start_part.bundle end_part.bundle start_load end_load → LoadIsDone (config_of heap) other_assigned workers first beyond (view_of end_part.bundle) end_load
    by_loads (scripts all_scripts) (Scripted start_work) (Scripted end_work) is_load have_ended = (
      record {
        numbers = λ number. have_ended.1.numbers number ∙ is_load.numbers number;
        scripts_are = λ number some_job. have_ended.1.scripts number ∙ is_load.scripts_are number (sym (have_ended.1.numbers number) ∙ some_job);
      },
      λ number actor machine_there role.
          subst (λ script. HasDone script (replies_of end_work number) actor) (is_load.scripts_are number (is_load.numbers number ∙ has_job number actor machine_there role)) (have_ended.0 number actor machine_there role),
    )
    by_loads (users firsts) (Driven start_work) (Driven end_work) is_load have_ended = (
      is_load.0,
      have_ended.0 ∙ ap length is_load.1,
      λ number actor machine_there role.
          let did = have_ended.1 number actor machine_there role in
          let number_below : number < (config_of heap).mutators = ltb-true number (config_of heap).mutators (its_number heap workers first beyond end_part part number actor machine_there role) in
          let range = its_range heap workers first beyond end_part part first_before is_load.0.single number actor machine_there number_below in
          let its_seat = its_place heap workers first beyond end_part part first_before is_load.0.single number actor machine_there number_below in
          record {
            begun = did.0;
            ended = did.1;
            begun_is = crew_at firsts first beyond number did.0 range.0 (ap (λ xs. slice_get xs (number - first)) (sym is_load.1) ∙ ap (slice_get start_work.items) (sym its_seat) ∙ did.2);
            ended_is = ap (slice_get end_work.items) (sym its_seat) ∙ did.3;
            driven = did.4;
          },
    )
    by_loads (scripts all_scripts) (Driven start_work) end_load is_load have_ended = absurd is_load
    by_loads (users firsts) (Scripted start_work) end_load is_load have_ended = absurd is_load
    by_loads other_assigned (Scripted start_work) (Driven end_work) is_load have_ended = absurd have_ended
    by_loads other_assigned (Driven start_work) (Scripted end_work) is_load have_ended = absurd have_ended
