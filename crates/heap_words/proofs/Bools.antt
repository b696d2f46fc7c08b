-- Lemmas on truth values.
use Rattle.std.proofs.Common.{◌≡◌, Bool, true, false, ◌&&◌, refl, sym, ℕ, eqb}
use Rattle.std.proofs.lemmas.Bool.{eqb-true, and_parts}
use Rattle.std.specs.Prelude.{if◌then◌else◌}

-- two that follow from each other are the same
pub same_truth : (a b : Bool) → (a ≡ true → b ≡ true) → (b ≡ true → a ≡ true) → a ≡ b
same_truth true b forth from = sym (forth refl)
same_truth false true forth from = from refl
same_truth false false forth from = refl

-- a choice between the same numbers
pub if_either_way : (holds : Bool) (n : ℕ) → (if holds then n else n) ≡ n
if_either_way true n = refl
if_either_way false n = refl

-- two pairs of numbers that are equal by the test are the same
pub both_equal : (a b x y : ℕ) → (eqb a b && eqb x y) ≡ true → (a ≡ b) × (x ≡ y)
both_equal a b x y equal_pairs = let equal_parts = and_parts (eqb a b) (eqb x y) equal_pairs in (eqb-true a b equal_parts.0, eqb-true x y equal_parts.1)
