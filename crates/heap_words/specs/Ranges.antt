-- The numbers of a configuration, before there is one.
use Rattle.std.specs.Prelude.{ℕ, ◌+◌, ◌<◌, ◌≤◌}

-- each number of a configuration is in its range
pub record IsInRange (regions region_words mutators helpers reserve : ℕ) : Type 0 where
  pub least_regions : 4 ≤ regions
  pub most_regions : regions ≤ 64
  pub least_words : 64 ≤ region_words
  pub most_words : region_words ≤ 33554432
  pub least_mutators : 1 ≤ mutators
  pub most_mutators : mutators ≤ 8
  pub most_helpers : helpers ≤ 3
  pub some_left : reserve < regions

-- the seats of the mutators, of the helpers and of the control
abbrev pub seat_count : ℕ → ℕ → ℕ
seat_count mutators helpers = mutators + helpers + 1
