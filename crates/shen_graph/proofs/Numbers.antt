-- Lemmas on numbers.
use Rattle.std.proofs.Common.{ℕ, ◌≡◌, true, eqb, refl, arith, ◌≤◌}
use Rattle.std.proofs.lemmas.Bool.Decides.{Decides-eqb, nat_tests}
use Rattle.std.specs.Prelude.{◌==◌}

-- a number is equal to itself by the test
pub eqb_itself : (t : ℕ) → eqb t t ≡ true
eqb_itself t = (Decides-eqb t t).1 refl

-- and to itself by the test that gives a truth value
pub equal_itself : (m : ℕ) → (m == m) ≡ true
equal_itself m = grind (arith, nat_tests)

-- the same number is at most that
pub le_from_same : (m n : ℕ) → m ≡ n → m ≤ n
le_from_same m n same_number = omega arith
