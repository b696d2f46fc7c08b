-- What memory keeps of a view changes as the view does.
use Rattle.std.proofs.Common.{◌≡◌, ℕ, zero, suc, Bool, true, false, List, [], ◌∷◌, map, length, Option, Some, None, refl, ap, ◌∙◌}
use Rattle.std.specs.Prelude.{slice_set, if◌then◌else◌}
use Rattle.shared_table.specs.Views.{View, machine_of, whole, machines_picked, merged, whichever_is_there, kept_one, kept_in_view}
use Rattle.std.specs.Option.{is_some}
use Rattle.atomic_table.specs.Table.{Me}
use Rattle.heap_words.specs.declared.access.Access.{Access}
use Rattle.heap_words.specs.Steps.{MachineKind, Stage, Finds}
use Rattle.shared_table.specs.Rule.{Took}
use Rattle.shared_table.specs.Laws.{KeptLaws, StepLaws}

module _ {R T : Type 0} (kept : R → T) where
  pub machine_of-kept : (view : View R) (number : ℕ) → machine_of (kept_in_view kept view) number ≡ kept_one kept (machine_of view number)
  machine_of-kept [] number = refl
  machine_of-kept (first ∷ rest) zero = refl
  machine_of-kept (first ∷ rest) (suc number) = machine_of-kept rest number

  pub length-kept : (view : View R) → length (kept_in_view kept view) ≡ length view
  length-kept [] = refl
  length-kept (first ∷ rest) = ap suc (length-kept rest)

  pub kept-whole : (machines : List R) → kept_in_view kept (whole machines) ≡ whole (map kept machines)
  kept-whole [] = refl
  kept-whole (machine ∷ rest) = ap (λ (tail : View T). Some (kept machine) ∷ tail) (kept-whole rest)

  pub kept-set : (view : View R) (number : ℕ) (found : Option R) → kept_in_view kept (slice_set view number found) ≡ slice_set (kept_in_view kept view) number (kept_one kept found)
  kept-set [] number found = refl
  kept-set (first ∷ rest) zero found = refl
  kept-set (first ∷ rest) (suc number) found = ap (λ (tail : View T). kept_one kept first ∷ tail) (kept-set rest number found)

  pub kept-picked : (test : ℕ → Bool) (view : View R) → kept_in_view kept (machines_picked test view) ≡ machines_picked test (kept_in_view kept view)
  kept-picked test [] = refl
  kept-picked test (first ∷ rest) =
      let head : kept_one kept (if test 0 then first else None) ≡ (if test 0 then kept_one kept first else None) = by_test (test 0) first in
      let tail : kept_in_view kept (machines_picked (λ thread. test (suc thread)) rest) ≡ machines_picked (λ thread. test (suc thread)) (kept_in_view kept rest) = kept-picked (λ thread. test (suc thread)) rest in
      λ i. head i ∷ tail i
    where
      by_test : (holds : Bool) (found : Option R) → kept_one kept (if holds then found else None) ≡ (if holds then kept_one kept found else None)
      by_test true found = refl
      by_test false found = refl

  pub kept-merged : (view other_view : View R) → kept_in_view kept (merged view other_view) ≡ merged (kept_in_view kept view) (kept_in_view kept other_view)
  kept-merged [] view = refl
  kept-merged (found ∷ rest) [] = refl
  kept-merged (found ∷ rest) (other_found ∷ other_rest) =
      let head : kept_one kept (whichever_is_there found other_found) ≡ whichever_is_there (kept_one kept found) (kept_one kept other_found) = by_cases found other_found in
      let tail : kept_in_view kept (merged rest other_rest) ≡ merged (kept_in_view kept rest) (kept_in_view kept other_rest) = kept-merged rest other_rest in
      λ i. head i ∷ tail i
    where
      by_cases : (found other_found : Option R) → kept_one kept (whichever_is_there found other_found) ≡ whichever_is_there (kept_one kept found) (kept_one kept other_found)
      by_cases None other_found = refl
      by_cases (Some machine) other_found = refl

  -- a machine in memory is one of the view
  pub kept_here : (view : View R) (number : ℕ) (kept_machine : T) → machine_of (kept_in_view kept view) number ≡ Some kept_machine → (r : R) × (machine_of view number ≡ Some r) × (kept r ≡ kept_machine)
  kept_here view number kept_machine has_kept = by_machine (machine_of view number) refl
    where
      by_machine : (found : Option R) → machine_of view number ≡ found → (machine : R) × (machine_of view number ≡ Some machine) × (kept machine ≡ kept_machine)
      by_machine None view_found = absurd (let as_kept = machine_of-kept view number in let kept_is : kept_one kept (machine_of view number) ≡ None = ap (kept_one kept) view_found in cc)
      by_machine (Some machine) view_found = (machine, view_found, (let as_kept = machine_of-kept view number in let kept_is : kept_one kept (machine_of view number) ≡ Some (kept machine) = ap (kept_one kept) view_found in cc))

  -- there is one in memory where there is one in the view
  pub kept_some : (view : View R) (number : ℕ) → is_some (machine_of (kept_in_view kept view) number) ≡ is_some (machine_of view number)
  kept_some view number = ap is_some (machine_of-kept view number) ∙ by_machine (machine_of view number)
    where
      by_machine : (found : Option R) → is_some (kept_one kept found) ≡ is_some found
      by_machine None = refl
      by_machine (Some machine) = refl

  pub kept_laws : KeptLaws kept
  kept_laws = record {
    machine = machine_of-kept;
    count = length-kept;
    all = kept-whole;
    set = kept-set;
    picked = kept-picked;
    merged = kept-merged;
    here = kept_here;
    some = kept_some;
  }

module _ {R O T : Type 0} (kind : MachineKind R O) (start : Stage R) (kept : R → T) where
  -- what a step asks, where memory has the machine
  pub kept_can : (view : View R) (number : ℕ) (order : O) (kept_machine : T) (access : Access) → machine_of (kept_in_view kept view) number ≡ Some kept_machine
      → ((machine : R) → kept machine ≡ kept_machine → (kind.takes machine order ≡ true) × (kind.plan machine order ≡ access))
      → (machine : R) × (machine_of view number ≡ Some machine) × (kind.takes machine order ≡ true) × (kind.plan machine order ≡ access)
  kept_can view number order kept_machine access has_kept can_step =
      let found_machine = kept_here kept view number kept_machine has_kept in
      let may_step = can_step found_machine.0 found_machine.2 in
      (found_machine.0, found_machine.1, may_step.0, may_step.1)

  -- what memory keeps after a step
  pub kept_step : {S : Type 0} (number : ℕ) (order : O) (before after : Me S (View R)) (got : ℕ) (kept_machine next_kept : T) → Took kind start number order before got after
      → machine_of (kept_in_view kept before.0) number ≡ Some kept_machine → ((machine : R) → kept machine ≡ kept_machine → kept (kind.took machine order got) ≡ next_kept)
      → kept_in_view kept after.0 ≡ slice_set (kept_in_view kept before.0) number (Some next_kept)
  kept_step number order before after got kept_machine next_kept took has_kept goes_on =
      let found_machine = kept_here kept before.0 number kept_machine has_kept in
      let same_machine : took.machine ≡ found_machine.0 = cc (took.here, found_machine.1) in
      let same_kept : kept took.machine ≡ kept_machine = ap kept same_machine ∙ found_machine.2 in
      ap (kept_in_view kept) took.view ∙ kept-set kept before.0 number (Some (kind.took took.machine order got)) ∙ ap (λ (new_kept : T). slice_set (kept_in_view kept before.0) number (Some new_kept)) (goes_on took.machine same_kept)

  -- what a step tells of the machine that memory has
  pub kept_finds : {S : Type 0} (number : ℕ) (order : O) (before after : Me S (View R)) (got : ℕ) (kept_machine : T) → Took kind start number order before got after → machine_of (kept_in_view kept before.0) number ≡ Some kept_machine
      → (machine : R) × (kept machine ≡ kept_machine) × Finds kind start number machine order got
  kept_finds number order before after got kept_machine took has_kept =
      let found_machine = kept_here kept before.0 number kept_machine has_kept in
      let same_machine : took.machine ≡ found_machine.0 = cc (took.here, found_machine.1) in
      (took.machine, ap kept same_machine ∙ found_machine.2, took.finds)

  pub step_laws : {S : Type 0} → StepLaws S kind start kept
  step_laws = record { can = kept_can; finds = kept_finds; goes = kept_step }
