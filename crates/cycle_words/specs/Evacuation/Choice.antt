-- The collection set: which regions are evacuated.
use Rattle.std.specs.Prelude.{ℕ, ◌-◌, ◌*◌}
use Rattle.heap_words.specs.declared.config.Config.{Config}
use Rattle.heap_words.specs.Words.{Word, Free}
use Rattle.regions.specs.Sets.{members_below}
use Rattle.cycle_words.specs.Evacuation.Live.{live_words, is_candidate}
use Rattle.cycle_words.specs.Evacuation.Front.{IsLongestFront, longest_front}

-- The words that may be copied: those of the free regions, less 35 in each, which is the most that an object has. So
-- what may be left of a region at its end never leaves an object without room.
abbrev pub copy_limit : Config → (Word → ℕ) → ℕ
copy_limit config memory = members_below (memory Free) config.regions * (config.region_words - 35)

-- a set is the longest front of the candidates whose live words are within that limit
abbrev pub IsChoice : Config → (Word → ℕ) → (set : ℕ) → Type 0
IsChoice config memory = IsLongestFront config.regions (copy_limit config memory) (live_words config memory) (is_candidate config memory)

-- that set
abbrev pub chosen : Config → (Word → ℕ) → ℕ
chosen config memory = longest_front config.regions (copy_limit config memory) (live_words config memory) (is_candidate config memory)
