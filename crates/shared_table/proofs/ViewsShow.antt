-- What a view has under a number, and what a seat shows, after views change.
use Rattle.std.proofs.Common.{◌≡◌, ℕ, zero, suc, Bool, true, false, List, [], ◌∷◌, ◌++◌, length, Option, Some, None, refl, sym, ◌<◌, ◌≤◌, arith}
use Rattle.std.specs.Prelude.{slice_get, slice_set, ◌==◌, if◌then◌else◌}
use Rattle.std.proofs.lemmas.Bool.Decides.{nat_tests}
use mathlib.Core.Option.{some}
use lib.ListN.{get_elem?}
use Rattle.shared_table.specs.Views.{View, machine_of, seen_under, whole, machines_picked, whichever_is_there, merged}

module _ {R : Type 0} where
  pub shown-at : (views : List (View R)) (id number : ℕ) (view : View R) → get_elem? views id ≡ some view → seen_under views id number ≡ machine_of view number
  shown-at [] id number view view_there = cc
  shown-at (first_view ∷ rest) zero number view view_there = cc
  shown-at (first_view ∷ rest) (suc id) number view view_there = shown-at rest id number view view_there

  pub seat_below : (views : List (View R)) (id : ℕ) (view : View R) → get_elem? views id ≡ some view → id < length views
  seat_below [] id view view_there = cc
  seat_below (first_view ∷ rest) zero view view_there = omega arith
  seat_below (first_view ∷ rest) (suc id) view view_there = omega (arith, seat_below rest id view view_there)

  pub shown-past : (views : List (View R)) (seat number : ℕ) → length views ≤ seat → seen_under views seat number ≡ None
  shown-past [] seat number behind_all = refl
  shown-past (view ∷ rest) zero number behind_all = absurd (omega arith)
  shown-past (view ∷ rest) (suc seat) number behind_all = shown-past rest seat number (omega arith)

  pub shown-set : (views : List (View R)) (id : ℕ) (view new_view : View R) → get_elem? views id ≡ some view → (seat number : ℕ)
      → seen_under (slice_set views id new_view) seat number ≡ (if seat == id then machine_of new_view number else seen_under views seat number)
  shown-set [] id view new_view view_there seat number = cc
  shown-set (first_view ∷ later_views) zero view new_view view_there zero number = grind (arith, nat_tests)
  shown-set (first_view ∷ later_views) zero view new_view view_there (suc seat) number = grind (arith, nat_tests)
  shown-set (first_view ∷ later_views) (suc id) view new_view view_there zero number = grind (arith, nat_tests)
  shown-set (first_view ∷ later_views) (suc id) view new_view view_there (suc seat) number = grind (arith, nat_tests, shown-set later_views id view new_view view_there seat number)

  pub shown-last : (views : List (View R)) (view : View R) (seat number : ℕ) → seen_under (views ++ view ∷ []) seat number ≡ (if seat == length views then machine_of view number else seen_under views seat number)
  shown-last [] view zero number = grind (arith, nat_tests)
  shown-last [] view (suc seat) number = grind (arith, nat_tests)
  shown-last (first_view ∷ rest) view zero number = grind (arith, nat_tests)
  shown-last (first_view ∷ rest) view (suc seat) number = grind (arith, nat_tests, shown-last rest view seat number)

  pub machine_of-whole : (machines : List R) (number : ℕ) → machine_of (whole machines) number ≡ slice_get machines number
  machine_of-whole [] number = refl
  machine_of-whole (machine ∷ later_machines) zero = refl
  machine_of-whole (machine ∷ later_machines) (suc number) = machine_of-whole later_machines number

  pub machine_of-picked : (test : ℕ → Bool) (view : View R) (number : ℕ) → machine_of (machines_picked test view) number ≡ (if test number then machine_of view number else None)
  machine_of-picked test [] number = none (test number)
    where
      none : (holds : Bool) → ◌≡◌ {A = Option R} None (if holds then None else None)
      none true = refl
      none false = refl
  machine_of-picked test (first_machine ∷ later_machines) zero = refl
  machine_of-picked test (first_machine ∷ later_machines) (suc number) = machine_of-picked (λ thread. test (suc thread)) later_machines number

  pub one_of-none : (found : Option R) → whichever_is_there found None ≡ found
  one_of-none None = refl
  one_of-none (Some machine) = refl

  pub machine_of-merged : (view second_view : View R) (number : ℕ) → machine_of (merged view second_view) number ≡ whichever_is_there (machine_of view number) (machine_of second_view number)
  machine_of-merged [] view number = refl
  machine_of-merged (machine ∷ later_machines) [] number = sym (one_of-none (machine_of (machine ∷ later_machines) number))
  machine_of-merged (machine ∷ later_machines) (second_machine ∷ second_later) zero = refl
  machine_of-merged (machine ∷ later_machines) (second_machine ∷ second_later) (suc number) = machine_of-merged later_machines second_later number

  pub machine_of-set : (view : View R) (number : ℕ) (machine : R) (found : Option R) → machine_of view number ≡ Some machine → (index : ℕ)
      → machine_of (slice_set view number found) index ≡ (if index == number then found else machine_of view index)
  machine_of-set [] number machine found machine_there index = cc
  machine_of-set (first_machine ∷ later_machines) zero machine found machine_there zero = grind (arith, nat_tests)
  machine_of-set (first_machine ∷ later_machines) zero machine found machine_there (suc index) = grind (arith, nat_tests)
  machine_of-set (first_machine ∷ later_machines) (suc number) machine found machine_there zero = grind (arith, nat_tests)
  machine_of-set (first_machine ∷ later_machines) (suc number) machine found machine_there (suc index) = grind (arith, nat_tests, machine_of-set later_machines number machine found machine_there index)

  pub slice_get-set : (machines : List R) (number : ℕ) (old_machine new_machine : R) → slice_get machines number ≡ Some old_machine → (index : ℕ)
      → slice_get (slice_set machines number new_machine) index ≡ (if index == number then Some new_machine else slice_get machines index)
  slice_get-set [] number old_machine new_machine machine_there index = cc
  slice_get-set (first_machine ∷ later_machines) zero old_machine new_machine machine_there zero = grind (arith, nat_tests)
  slice_get-set (first_machine ∷ later_machines) zero old_machine new_machine machine_there (suc index) = grind (arith, nat_tests)
  slice_get-set (first_machine ∷ later_machines) (suc number) old_machine new_machine machine_there zero = grind (arith, nat_tests)
  slice_get-set (first_machine ∷ later_machines) (suc number) old_machine new_machine machine_there (suc index) = grind (arith, nat_tests, slice_get-set later_machines number old_machine new_machine machine_there index)

  -- lists as long as each other are one where each element of the one stands in the other at its place
  pub same_elements : (xs ys : List R) → length xs ≡ length ys → ((index : ℕ) (machine : R) → slice_get ys index ≡ Some machine → slice_get xs index ≡ Some machine) → xs ≡ ys
  same_elements [] [] same_length each_stands = refl
  same_elements [] (y ∷ ys) same_length each_stands = absurd (omega arith)
  same_elements (x ∷ xs) [] same_length each_stands = absurd (omega arith)
  same_elements (x ∷ xs) (y ∷ ys) same_length each_stands =
      let head : x ≡ y = cc (each_stands zero y refl) in
      let tail : xs ≡ ys = same_elements xs ys (omega arith) (λ index machine element_there. each_stands (suc index) machine element_there) in
      cc
