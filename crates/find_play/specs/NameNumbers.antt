-- Which number a name stands for.
use Rattle.std.specs.Prelude.{ℕ, List, length, true, false, nat_eq, nat_lt, Option, Some, None, if◌then◌else◌}
use Rattle.std.specs.List.{prefix_len}
use Rattle.std.specs.Cmp.Lexicographic.{pointwise}

-- how many names stand before this one
abbrev pub others : List (List ℕ) → List ℕ → ℕ
others names name = prefix_len (λ n. if pointwise nat_eq n name then false else true) names

-- the number of the first of these names that is this one, counted from 0
abbrev pub number_of : List (List ℕ) → List ℕ → Option ℕ
number_of names name = if nat_lt (others names name) (length names) then Some (others names name) else None
