-- Work that is cut into parts, and joined again.
use Rattle.std.proofs.Common.{◌≡◌, ◌<◌, ◌≤◌, ⊎_elim, ℕ, Bool, true, false, not, nat_lt, List, length, Option, None, refl, sym, ap, ◌∙◌, arith, mod-lt}
use Rattle.std.specs.Prelude.{◌%◌, slice_get, option_map, if◌then◌else◌}
use Rattle.std.proofs.lemmas.List.{ext_get_or, get_or_past}
use Rattle.std.proofs.lemmas.List.FromFn.{fill_by_all, get_or-map-range_with_len}
use Rattle.std.proofs.lemmas.Option.{slice_get_past}
use Rattle.std.proofs.lemmas.Bool.{cases_lt, lt-ltb}
use Rattle.shen_graph.specs.declared.command.Command.{Command}
use Rattle.shen_graph.specs.Work.{Progress, progress_of, begun, opened, is_in_part, picked, parted, left_over, parted_below, one_of, joined}

abbrev Jobs : Type 0
Jobs = List (Option Progress)

-- two works with the same in each place
pub same_work : (jobs other_jobs : Jobs) → length jobs ≡ 8 → length other_jobs ≡ 8 → ((mutator : ℕ) → progress_of jobs mutator ≡ progress_of other_jobs mutator) → jobs ≡ other_jobs
same_work jobs other_jobs eight_jobs other_eight same_progress = ext_get_or None jobs other_jobs (eight_jobs ∙ sym other_eight) (λ mutator within. same_progress mutator)

-- no script lies past the eight places
none_past : (jobs : Jobs) (mutator : ℕ) → length jobs ≡ 8 → 8 ≤ mutator → progress_of jobs mutator ≡ None
none_past jobs mutator eight_jobs mutator_past = get_or_past jobs mutator None (omega arith)

either : (holds : Bool) → ◌≡◌ {A = Option Progress} (if holds then None else None) None
either true = refl
either false = refl

-- the place of a mutator, among those that pass a test
pub progress_of-picked : (test : ℕ → Bool) (work : Jobs) (t : ℕ) → length work ≡ 8 → progress_of (picked test work) t ≡ (if test t then progress_of work t else None)
progress_of-picked test work t eight_jobs = ⊎_elim
    (λ (mutator_below : t < 8). get_or-map-range_with_len (λ mutator. if test mutator then progress_of work mutator else None) 0 8 t t None mutator_below (omega arith))
    (λ (mutator_past : 8 ≤ t). none_past (picked test work) t refl mutator_past ∙ sym (ap (λ progress. if test t then progress else None) (none_past work t eight_jobs mutator_past) ∙ either (test t)))
    (cases_lt t 8)

-- in a part
pub progress_of-parted : (workers part : ℕ) (work : Jobs) (mutator : ℕ) → length work ≡ 8 → progress_of (parted workers part work) mutator ≡ (if is_in_part workers part mutator then progress_of work mutator else None)
progress_of-parted workers part = progress_of-picked (is_in_part workers part)

-- in the other parts
pub progress_of-left_over : (workers part : ℕ) (work : Jobs) (t : ℕ) → length work ≡ 8 → progress_of (left_over workers part work) t ≡ (if is_in_part workers part t then None else progress_of work t)
progress_of-left_over workers part work t eight_jobs = progress_of-picked (λ mutator. not (is_in_part workers part mutator)) work t eight_jobs ∙ turned (is_in_part workers part t)
  where
    turned : (holds : Bool) → (if not holds then progress_of work t else None) ≡ (if holds then None else progress_of work t)
    turned true = refl
    turned false = refl

-- in work of which nothing was done
pub progress_of-opened : (scripts : List (List Command)) (index : ℕ) → length scripts ≤ 8 → progress_of (opened scripts) index ≡ option_map begun (slice_get scripts index)
progress_of-opened scripts index at_most = ⊎_elim
    (λ (index_below : index < 8). get_or-map-range_with_len (λ mutator. option_map begun (slice_get scripts mutator)) 0 8 index index None index_below (omega arith))
    (λ (index_past : 8 ≤ index). none_past (opened scripts) index refl index_past ∙ sym (ap (option_map begun) (slice_get_past scripts index (omega arith))))
    (cases_lt index 8)

-- the parts below a number, and all of them
below : (workers part : ℕ) (work : Jobs) (t : ℕ) → length work ≡ 8 → progress_of (parted_below workers part work) t ≡ (if nat_lt (t % workers) part then progress_of work t else None)
below workers part = progress_of-picked (λ mutator. nat_lt (mutator % workers) part)

pub all_below : (workers : ℕ) (work : Jobs) → 0 < workers → length work ≡ 8 → parted_below workers workers work ≡ work
all_below workers work positive eight_jobs = same_work _ work refl eight_jobs (λ mutator.
    below workers workers work mutator eight_jobs
    ∙ ap (λ is_below. if is_below then progress_of work mutator else None) (lt-ltb (mutator % workers) workers (mod-lt mutator positive)))

-- what the loops of `part` and `join` have at their end
pub all_picked : (test : ℕ → Bool) (work jobs : Jobs) → length jobs ≡ 8 → ((mutator : ℕ) → mutator < 8 → progress_of jobs mutator ≡ (if test mutator then progress_of work mutator else None)) → jobs ≡ picked test work
all_picked test work jobs eight_jobs same_progress = fill_by_all (λ mutator. if test mutator then progress_of work mutator else None) jobs 8 None eight_jobs same_progress

pub all_joined : (work other_work jobs : Jobs) → length jobs ≡ 8 → ((mutator : ℕ) → mutator < 8 → progress_of jobs mutator ≡ one_of (progress_of work mutator) (progress_of other_work mutator)) → jobs ≡ joined work other_work
all_joined work other_work jobs eight_jobs same_progress = fill_by_all (λ mutator. one_of (progress_of work mutator) (progress_of other_work mutator)) jobs 8 None eight_jobs same_progress
