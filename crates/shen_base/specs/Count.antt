-- Counts that a u64 keeps: of calls, and of faults.
use Rattle.std.specs.Prelude.{◌≡◌, ℕ, ◌+◌, ◌-◌, ◌^◌, ◌<◌, ◌≤◌, ◌⊎◌, min}

-- the last value of a count, at which it stands still
abbrev pub last_count : ℕ
last_count = 2 ^ 64 - 1

-- the count after one more
abbrev pub raised : ℕ → ℕ
raised count = min (count + 1) last_count

-- a count rose: it is greater than before, or stands at its last value
abbrev pub Rose : ℕ → ℕ → Type 0
Rose before after = (before < after) ⊎ (after ≡ last_count)

-- no more than so many calls came between two counts of calls
abbrev pub CalledAtMost : (most before after : ℕ) → Type 0
CalledAtMost most before after = after ≤ before + most
