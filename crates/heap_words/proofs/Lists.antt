-- Lemmas on lists.
use Rattle.std.proofs.Common.{◌≡◌, ℕ, ◌<◌, List, [], ◌∷◌, length, Some, zero, suc, arith, refl, ◌≢◌, ap}
use Rattle.std.specs.Prelude.{slice_get, slice_set}

-- an index at which there is an element is below the length
pub index_in_range : {A : Type 0} (xs : List A) (index : ℕ) (x : A) → slice_get xs index ≡ Some x → index < length xs
index_in_range [] index x element_there = absurd (cc (element_there))
index_in_range (y ∷ xs) zero x element_there = omega arith
index_in_range (y ∷ xs) (suc index) x element_there = omega (arith, index_in_range xs index x element_there)

-- and there is one at each index below it
pub element_at : {A : Type 0} (xs : List A) (index : ℕ) → index < length xs → (x : A) × (slice_get xs index ≡ Some x)
element_at [] index index_below = absurd (omega (arith, index_below))
element_at (y ∷ xs) zero index_below = (y, refl)
element_at (y ∷ xs) (suc index) index_below = element_at xs index (omega (arith, index_below))

-- an element that is set is there
pub slice_get-set_same : {A : Type 0} (xs : List A) (index : ℕ) (x y : A) → slice_get xs index ≡ Some x → slice_get (slice_set xs index y) index ≡ Some y
slice_get-set_same [] index x y element_there = cc
slice_get-set_same (z ∷ xs) zero x y element_there = refl
slice_get-set_same (z ∷ xs) (suc index) x y element_there = slice_get-set_same xs index x y element_there

-- and the others stay
pub slice_get-set_other : {A : Type 0} (xs : List A) (set_index index : ℕ) (y : A) → index ≢ set_index → slice_get (slice_set xs set_index y) index ≡ slice_get xs index
slice_get-set_other [] set_index index y other_index = refl
slice_get-set_other (z ∷ xs) zero zero y other_index = absurd (other_index refl)
slice_get-set_other (z ∷ xs) zero (suc index) y other_index = refl
slice_get-set_other (z ∷ xs) (suc set_index) zero y other_index = refl
slice_get-set_other (z ∷ xs) (suc set_index) (suc index) y other_index = slice_get-set_other xs set_index index y (λ same_index. other_index (ap suc same_index))
