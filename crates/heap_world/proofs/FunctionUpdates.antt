-- A function of numbers that is another at one of them.
use Rattle.std.proofs.Common.{◌≡◌, ◌≢◌, ℕ, refl}
use Rattle.std.specs.Prelude.{◌==◌, if◌then◌else◌}
use Rattle.std.proofs.lemmas.Bool.{cond-true, cond-false, eq-eqb, ne_eqb}

-- what it is at each number
abbrev pub updated : {A : Type 0} → (ℕ → A) → ℕ → A → ℕ → A
updated f place new number = if place == number then new else f number

-- it is the new one at an equal number
pub updated_same : {A : Type 0} (f : ℕ → A) (place : ℕ) (new : A) (number : ℕ) → place ≡ number → updated f place new number ≡ new
updated_same f place new number same_place = cond-true (place == number) new (f number) (eq-eqb place number same_place)

-- so it is there
pub updated_there : {A : Type 0} (f : ℕ → A) (place : ℕ) (new : A) → updated f place new place ≡ new
updated_there f place new = updated_same f place new place refl

-- it is as before elsewhere
pub updated_else : {A : Type 0} (f : ℕ → A) (place : ℕ) (new : A) (number : ℕ) → place ≢ number → updated f place new number ≡ f number
updated_else f place new number elsewhere = cond-false (place == number) new (f number) (ne_eqb place number elsewhere)
