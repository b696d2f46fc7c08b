-- What stands between separators.
use Rattle.std.proofs.Common.{◌≡◌, ℕ, ◌+◌, suc, Bool, true, false, cond, eqb, List, [], ◌∷◌, take, drop, refl, ap, arith}
use Rattle.std.specs.List.{onto_first, prefix_len}
use Rattle.trace_reading.specs.Causes.{parts, parts_behind}

one-add : (n : ℕ) → 1 + n ≡ suc n
one-add n = omega arith

-- how many bytes stand before the first separator
abbrev pub count_before : ℕ → List ℕ → ℕ
count_before separator bytes = prefix_len (λ byte. cond (eqb byte separator) false true) bytes

-- the first part, and those behind it
pub cut_parts : (separator : ℕ) (bytes : List ℕ) → parts separator bytes ≡ take (count_before separator bytes) bytes ∷ parts_behind separator (drop (count_before separator bytes) bytes)
cut_parts separator [] = refl
cut_parts separator (byte ∷ bytes) = by_first (eqb byte separator) (cut_parts separator bytes)
  where
    by_first : (is_separator : Bool) → parts separator bytes ≡ take (count_before separator bytes) bytes ∷ parts_behind separator (drop (count_before separator bytes) bytes)
        → cond is_separator ([] ∷ parts separator bytes) (onto_first byte (parts separator bytes)) ≡ take (cond (cond is_separator false true) (1 + count_before separator bytes) 0) (byte ∷ bytes) ∷ parts_behind separator (drop (cond (cond is_separator false true) (1 + count_before separator bytes) 0) (byte ∷ bytes))
    by_first true later_parts = refl
    by_first false later_parts = rw one-add (ap (onto_first byte) later_parts)
