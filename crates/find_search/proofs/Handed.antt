-- Work that is handed over to a mutator.
use Rattle.std.proofs.Common.{◌≡◌, ◌<◌, ◌≤◌, ◌+◌, ◌⊎◌, inl, inr, ℕ, Bool, true, false, not, List, [], ◌∷◌, ◌++◌, length, get_or, All, Option, Some, None, refl, sym, ap, subst, ◌∙◌, arith}
use Rattle.std.specs.Prelude.{◌≢◌, ◌==◌, slice_get, IsSome, IfSome, unwrap_or, option_map, if◌then◌else◌}
use Rattle.std.proofs.Math.Nat.{mod-eq_of_lt}
use Rattle.std.proofs.lemmas.Bool.{cases_lt, false≢true}
use Rattle.std.proofs.lemmas.Bool.Decides.{nat_tests}
use Rattle.std.proofs.lemmas.List.{get_or_past, get_or_push, length_push}
use Rattle.std.proofs.lemmas.List.FromFn.{get_or-map-range_with_len}
use Rattle.std.proofs.lemmas.Option.{slice_get-get_or}
use Rattle.shen_graph.proofs.Numbers.{equal_itself}
use Rattle.shen_graph.specs.declared.command.Command.{Command}
use Rattle.shen_graph.specs.declared.command.Command.TheVariants.{Gc}
use Rattle.shen_graph.specs.Valid.{IsValid, most_objects}
use Rattle.shen_graph.specs.Work.{Progress, HasScript, progress_of, script_in, replies_of, next_of, begun, opened, is_in_part, picked, parted, left_over, one_of, joined}
use Rattle.shen_graph.proofs.Parts.{progress_of-opened}
use Rattle.step_core.specs.Machines.{made_of_machine, at_hand_of, is_resting, takes_of}
use Rattle.shen_core.specs.declared.plain.Plain.{Plain}
use Rattle.collector_rows.specs.ControlRows.{is_gone}
use Rattle.collector_rows.specs.declared.control_spot.ControlSpot.{ControlSpot}
use Rattle.collector_rows.specs.declared.control_spot.ControlSpot.TheVariants.{StoreWord}
use Rattle.shen_graph.specs.declared.order.Order.TheVariants.{Nothing}
use Rattle.step_core.specs.Actor.{Machine, mutating, helping, controlling}
use Rattle.step_core.specs.Settled.{image_read, stored_image}
use Rattle.shen_core.specs.State.{config_of, machine_at, order_at, orders_of, has_turn}
use Rattle.shen_core.specs.Progress.{Jobs, CanRun}
use Rattle.find_search.specs.Courses.{short_script, IsWorkOf, IsHandedOver}

not_own : (thread mutator : ℕ) → thread ≢ mutator → (thread == mutator) ≡ false
not_own thread mutator differ = grind (arith, nat_tests)

in_part : (thread mutator : ℕ) → thread < 8 → is_in_part 8 mutator thread ≡ (thread == mutator)
in_part thread mutator thread_below = ap (λ remainder. remainder == mutator) (mod-eq_of_lt thread_below)

picked_at : (test : ℕ → Bool) (work : Jobs) (thread : ℕ) → thread < 8 → progress_of (picked test work) thread ≡ (if test thread then progress_of work thread else None)
picked_at test work thread thread_below = get_or-map-range_with_len (λ mutator. if test mutator then progress_of work mutator else None) 0 8 thread thread None thread_below (omega arith)

own_part : (mutator : ℕ) (work : Jobs) → mutator < 8 → progress_of (parted 8 mutator work) mutator ≡ progress_of work mutator
own_part mutator work mutator_below =
    picked_at (is_in_part 8 mutator) work mutator mutator_below ∙ ap (λ is_own. if is_own then progress_of work mutator else None) (in_part mutator mutator mutator_below ∙ equal_itself mutator)

other_part : (mutator thread : ℕ) (work : Jobs) → thread < 8 → thread ≢ mutator → progress_of (parted 8 mutator work) thread ≡ None
other_part mutator thread work thread_below differ =
    picked_at (is_in_part 8 mutator) work thread thread_below ∙ ap (λ is_own. if is_own then progress_of work thread else None) (in_part thread mutator thread_below ∙ not_own thread mutator differ)

left_own : (own_mutator : ℕ) (work : Jobs) → own_mutator < 8 → progress_of (left_over 8 own_mutator work) own_mutator ≡ None
left_own own_mutator work mutator_below =
    picked_at (λ mutator. not (is_in_part 8 own_mutator mutator)) work own_mutator mutator_below ∙ ap (λ is_own. if not is_own then progress_of work own_mutator else None) (in_part own_mutator own_mutator mutator_below ∙ equal_itself own_mutator)

left_other : (own_mutator thread : ℕ) (work : Jobs) → thread < 8 → thread ≢ own_mutator → progress_of (left_over 8 own_mutator work) thread ≡ progress_of work thread
left_other own_mutator thread work thread_below differ =
    picked_at (λ mutator. not (is_in_part 8 own_mutator mutator)) work thread thread_below ∙ ap (λ is_own. if not is_own then progress_of work thread else None) (in_part thread own_mutator thread_below ∙ not_own thread own_mutator differ)

join_at : (jobs other_jobs : Jobs) (thread : ℕ) → thread < 8 → progress_of (joined jobs other_jobs) thread ≡ one_of (progress_of jobs thread) (progress_of other_jobs thread)
join_at jobs other_jobs thread thread_below = get_or-map-range_with_len (λ mutator. one_of (progress_of jobs mutator) (progress_of other_jobs mutator)) 0 8 thread thread None thread_below (omega arith)

one_of_none : (found : Option Progress) → one_of found None ≡ found
one_of_none None = refl
one_of_none (Some progress) = refl

-- the one number, or another
by_number : (P : ℕ → Type 0) (mutator thread : ℕ) → P mutator → (thread ≢ mutator → P thread) → P thread
by_number P mutator thread own_holds other_holds = by_order (cases_lt thread mutator) (cases_lt mutator thread)
  where
    by_order : (thread < mutator) ⊎ (mutator ≤ thread) → (mutator < thread) ⊎ (thread ≤ mutator) → P thread
    by_order (inl thread_lower) _ = other_holds (λ same_mutator. absurd (omega (arith, thread_lower, same_mutator)))
    by_order (inr _) (inl mutator_lower) = other_holds (λ same_mutator. absurd (omega (arith, mutator_lower, same_mutator)))
    by_order (inr low) (inr high) = let same_mutator : mutator ≡ thread = omega (arith, low, high) in subst P same_mutator own_holds

not_some : (found : Option Progress) → found ≡ None → IsSome found → ⊥
not_some found found_none found_some = false≢true (subst (λ progress. IsSome progress) found_none found_some)

-- the work of one mutator, taken from that of some scripts of which its own is the last
pub work_of_one : (scripts : List (List Command)) (script : List Command) (index : ℕ) → index < 8 → length scripts ≡ index → IsWorkOf index script (parted 8 index (opened (scripts ++ script ∷ [])))
work_of_one scripts script index index_below count = record {
  own = own_part index (opened (scripts ++ script ∷ [])) index_below ∙ progress_of-opened (scripts ++ script ∷ []) index few ∙ ap (option_map begun) last;
  others = λ other_thread within differ. other_part index other_thread (opened (scripts ++ script ∷ [])) within differ;
}
  where
    few : length (scripts ++ script ∷ []) ≤ 8
    few =
        let one_more : length (scripts ++ script ∷ []) ≡ length scripts + 1 = length_push scripts script in
        omega (arith, index_below, count, one_more)

    last : slice_get (scripts ++ script ∷ []) index ≡ Some script
    last =
        let one_more : length (scripts ++ script ∷ []) ≡ length scripts + 1 = length_push scripts script in
        slice_get-get_or (scripts ++ script ∷ []) index script (omega (arith, count, one_more)) ∙ ap Some (get_or_push scripts script script index count)

-- what is left of work lacks the mutator
pub apart : (mutator : ℕ) (script : List Command) (old fresh : Jobs) → mutator < 8 → IsWorkOf mutator script fresh → (thread : ℕ) → HasScript (left_over 8 mutator old) thread → HasScript fresh thread → ⊥
apart mutator script old fresh mutator_below work_is thread left_script fresh_script = by_place (cases_lt thread 8)
  where
    by_place : (thread < 8) ⊎ (8 ≤ thread) → ⊥
    by_place (inr thread_past) = not_some (progress_of (left_over 8 mutator old) thread) (get_or_past (left_over 8 mutator old) thread None thread_past) left_script
    by_place (inl within) = by_number (λ number. number < 8 → HasScript (left_over 8 mutator old) number → HasScript fresh number → ⊥) mutator thread
        (λ _ left_there _. not_some (progress_of (left_over 8 mutator old) mutator) (left_own mutator old mutator_below) left_there)
        (λ differ _ _ fresh_there. not_some (progress_of fresh thread) (work_is.others thread within differ) fresh_there)
        within left_script fresh_script

pub handed_over : (mutator : ℕ) (script : List Command) (old fresh : Jobs) → mutator < 8 → IsWorkOf mutator script fresh → IsHandedOver mutator script old (joined (left_over 8 mutator old) fresh)
handed_over mutator script old fresh mutator_below work_is = record {
  own = join_at (left_over 8 mutator old) fresh mutator mutator_below ∙ ap (λ progress. one_of progress (progress_of fresh mutator)) (left_own mutator old mutator_below) ∙ work_is.own;
  others = λ other_thread within differ.
      join_at (left_over 8 mutator old) fresh other_thread within
      ∙ ap (λ progress. one_of progress (progress_of fresh other_thread)) (left_other mutator other_thread old within differ)
      ∙ ap (one_of (progress_of old other_thread)) (work_is.others other_thread within differ)
      ∙ one_of_none (progress_of old other_thread);
}

-- a mutator whose last command was answered rests
pub rests : (plain : Plain) (jobs : Jobs) (thread : ℕ) → CanRun plain jobs → thread < (config_of plain).mutators → next_of jobs thread ≡ None → is_resting (machine_at plain thread) ≡ false → ⊥
rests plain jobs thread can_run mutator_below no_next busy =
    let more_left = can_run.busy thread mutator_below busy in
    let next_there = slice_get-get_or (script_in jobs thread) (length (replies_of jobs thread)) Gc more_left in
    cc

-- what can run can run with another script of a mutator whose last command was answered
pub can_run_on : (plain : Plain) (mutator : ℕ) (script : List Command) (old new : Jobs) → CanRun plain old → (config_of plain).mutators ≤ 8 → mutator < (config_of plain).mutators → next_of old mutator ≡ None → IsHandedOver mutator script old new → All IsValid script
    → made_of_machine (machine_at plain mutator) + length script < most_objects → CanRun plain new
can_run_on plain mutator script old new can_run few mutator_below no_next handed valid names = record {
  orders = can_run.orders;
  jobs_are = λ thread within. by_number (λ number. number < (config_of plain).mutators → HasScript new number) mutator thread
      (λ _. subst (λ progress. IsSome progress) (sym handed.own) refl)
      (λ differ script_there. subst (λ progress. IsSome progress) (sym (handed.others thread (omega (arith, few, script_there)) differ)) (can_run.jobs_are thread script_there))
      within;
  commands = λ thread within. by_number (λ number. number < (config_of plain).mutators → All IsValid (script_in new number)) mutator thread
      (λ _. subst (λ progress. All IsValid (unwrap_or progress (begun [])).script) (sym handed.own) valid)
      (λ differ script_there. subst (λ progress. All IsValid (unwrap_or progress (begun [])).script) (sym (handed.others thread (omega (arith, few, script_there)) differ)) (can_run.commands thread script_there))
      within;
  busy = λ thread within. by_number (λ number. number < (config_of plain).mutators → is_resting (machine_at plain number) ≡ false → length (replies_of new number) < length (script_in new number)) mutator thread
      (λ _ is_busy. absurd (rests plain old mutator can_run mutator_below no_next is_busy))
      (λ differ script_there. subst (λ progress. is_resting (machine_at plain thread) ≡ false → length (unwrap_or progress (begun [])).replies < length (unwrap_or progress (begun [])).script) (sym (handed.others thread (omega (arith, few, script_there)) differ)) (can_run.busy thread script_there))
      within;
  made = λ thread within. by_number (λ number. number < (config_of plain).mutators → made_of_machine (machine_at plain number) + length (script_in new number) < most_objects + (length (replies_of new number) + at_hand_of (machine_at plain number))) mutator thread
      (λ _. let own_length = ap (λ progress. length (unwrap_or progress (begun [])).script) handed.own in omega (arith, own_length, names))
      (λ differ script_there. subst (λ progress. made_of_machine (machine_at plain thread) + length (unwrap_or progress (begun [])).script < most_objects + (length (unwrap_or progress (begun [])).replies + at_hand_of (machine_at plain thread))) (sym (handed.others thread (omega (arith, few, script_there)) differ)) (can_run.made thread script_there))
      within;
}

-- between two steps no order is pending
pub no_order : (plain : Plain) (jobs : Jobs) (number : ℕ) → CanRun plain jobs → order_at plain number ≡ Nothing
no_order plain jobs number can_run = by_place (cases_lt number (length (orders_of plain)))
  where
    by_place : (number < length (orders_of plain)) ⊎ (length (orders_of plain) ≤ number) → order_at plain number ≡ Nothing
    by_place (inl number_below) = can_run.orders number Nothing number_below
    by_place (inr number_past) = get_or_past (orders_of plain) number Nothing number_past

gone : (spot : ControlSpot) (image : List ℕ) → (if is_gone spot then false else true) ≡ false → stored_image spot image ≡ None
gone (StoreWord index extent) image has_gone = absurd cc
gone _ image has_gone = refl

over : (machine : Machine) → takes_of machine Nothing ≡ false → image_read machine ≡ None
over (mutating machine) takes_none = refl
over (helping machine) takes_none = refl
over (controlling control) takes_none = gone control.spot control.image takes_none

-- a machine that has no turn stores no image
pub stores_none : (plain : Plain) (jobs : Jobs) (number : ℕ) → CanRun plain jobs → has_turn plain number ≡ false → image_read (machine_at plain number) ≡ None
stores_none plain jobs number can_run no_turn = over (machine_at plain number) (ap (takes_of (machine_at plain number)) (sym (no_order plain jobs number can_run)) ∙ no_turn)

-- a script of a command in range, or of none
pub script_valid : (found : Option Command) → IfSome found IsValid → All IsValid (short_script found)
script_valid None if_some = λ place otherwise place_below. absurd (omega (arith, place_below))
script_valid (Some command) if_some = λ place otherwise place_below. let at_zero : 0 ≡ place = omega (arith, place_below) in subst (λ index. IsValid (get_or (command ∷ []) index otherwise)) at_zero if_some

pub script_short : (found : Option Command) → length (short_script found) ≤ 1
script_short None = omega arith
script_short (Some command) = omega arith
