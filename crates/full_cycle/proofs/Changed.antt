-- Lists whose numbers are changed one after the other.
use Rattle.std.proofs.Common.{◌≡◌, ◌≢◌, ℕ, ◌+◌, ◌<◌, ◌≤◌, ◌&&◌, nat_le, nat_lt, cond, List, length, get_or, ⊎_elim, ◌∙◌, subst, arith}
use Rattle.std.proofs.lemmas.Bool.{cases_eq}
use Rattle.std.proofs.lemmas.Bool.Decides.{nat_tests}
use Rattle.std.proofs.lemmas.Grind.{common_steps}
use Rattle.std.proofs.Math.ListN.{set}
use Rattle.full_cycle.specs.Steps.{IsChanged}

pub none_changed : (from : ℕ) (f : ℕ → ℕ) (xs : List ℕ) → IsChanged from from f xs xs
none_changed from f xs index = none (f (get_or xs index 0)) (get_or xs index 0)
  where
    none : (new_value old_value : ℕ) → old_value ≡ cond (nat_le from index && nat_lt index from) new_value old_value
    none new_value old_value = grind (arith, nat_tests)

same_there : (from end new_value old_value : ℕ) → cond (nat_le from end && nat_lt end end) new_value old_value ≡ old_value
same_there from end new_value old_value = grind (arith, nat_tests)

-- what stands behind the range is as it was
pub not_yet : (from index : ℕ) (f : ℕ → ℕ) (before now : List ℕ) → IsChanged from index f before now → get_or now index 0 ≡ get_or before index 0
not_yet from index f before now changed_before = changed_before index ∙ same_there from index (f (get_or before index 0)) (get_or before index 0)

changed_here : (from end new_value old_value : ℕ) → from ≤ end → new_value ≡ cond (nat_le from end && nat_lt end (end + 1)) new_value old_value
changed_here from end new_value old_value low = grind (arith, nat_tests)

other_stays : (from end index new_value old_value : ℕ) → end ≢ index → cond (nat_le from index && nat_lt index end) new_value old_value ≡ cond (nat_le from index && nat_lt index (end + 1)) new_value old_value
other_stays from end index new_value old_value not_end = grind (arith, nat_tests)

set_here : (xs : List ℕ) (index value : ℕ) → index < length xs → get_or (set xs index value) index 0 ≡ value
set_here xs index value inside = grind (arith, common_steps)

set_other : (xs : List ℕ) (place index value : ℕ) → place ≢ index → get_or (set xs place value) index 0 ≡ get_or xs index 0
set_other xs place index value other_place = grind (arith, common_steps)

-- one number more
pub changed_more : (from index : ℕ) (f : ℕ → ℕ) (before now : List ℕ) (value : ℕ) → from ≤ index → index < length now → IsChanged from index f before now → value ≡ f (get_or before index 0)
    → IsChanged from (index + 1) f before (set now index value)
changed_more from end f before now value low inside changed_before value_is place = ⊎_elim
    (λ (same_place : end ≡ place). subst (λ (index : ℕ). get_or (set now end value) index 0 ≡ cond (nat_le from index && nat_lt index (end + 1)) (f (get_or before index 0)) (get_or before index 0)) same_place
    (set_here now end value inside ∙ value_is ∙ changed_here from end (f (get_or before end 0)) (get_or before end 0) low))
    (λ (other_place : end ≢ place). set_other now end place value other_place ∙ changed_before place ∙ other_stays from end place (f (get_or before place 0)) (get_or before place 0) other_place)
    (cases_eq end place)
