-- Lemmas on truth values.
use Rattle.std.proofs.Common.{◌≡◌, Bool, true, false, refl, ℕ, if◌then◌else◌, not}
use Rattle.std.proofs.lemmas.Bool.{false≢true, true≢false}
use Rattle.std.specs.Prelude.{◌||◌}

-- nothing is added by false
pub or_false : (holds : Bool) → (holds || false) ≡ holds
or_false true = refl
or_false false = refl

-- it is false where its flip is true
pub false_from_flip : (ended : Bool) → (if ended then false else true) ≡ true → ended ≡ false
false_from_flip true flip_true = absurd (false≢true flip_true)
false_from_flip false flip_true = refl

-- a choice between two that are the same number
pub either_is : (holds : Bool) (x y n : ℕ) → x ≡ n → y ≡ n → (if holds then x else y) ≡ n
either_is true x y n first_equal second_equal = first_equal
either_is false x y n first_equal second_equal = second_equal

-- where the negation is false it is true
pub true_from_not : (holds : Bool) → not holds ≡ false → holds ≡ true
true_from_not true not_false = refl
true_from_not false not_false = absurd (true≢false not_false)
