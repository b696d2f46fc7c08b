-- How many hints a machine has taken.
use Rattle.std.specs.Prelude.{ℕ, ◌+◌, ◌-◌, ◌^◌, min}

-- one more, up to the greatest number that is counted
abbrev pub one_more : ℕ → ℕ
one_more hints = min (hints + 1) (2 ^ 64 - 1)
