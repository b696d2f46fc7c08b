-- What is wrong with the numbers that were given for a configuration.
use Rattle.std.specs.Prelude.{ℕ, Bool, ◌&&◌, nat_le, nat_lt, if◌then◌else◌, Option, None, Some}
use Rattle.heap_words.specs.declared.config.BadConfig.{BadConfig}
use Rattle.heap_words.specs.declared.config.BadConfig.TheVariants.{Regions, RegionWords, Mutators, Helpers, Reserve}

-- whether a number is from the least one to the most one
abbrev pub is_within : ℕ → ℕ → ℕ → Bool
is_within least most number = nat_le least number && nat_le number most

-- the first number outside its range, if there is one, where a region has at most so many words
abbrev pub fault_within : ℕ → ℕ → ℕ → ℕ → ℕ → ℕ → Option BadConfig
fault_within most_words regions region_words mutators helpers reserve =
    if is_within 4 64 regions then
    (if is_within 64 most_words region_words then
    (if is_within 1 8 mutators then
    (if is_within 0 3 helpers then
    (if nat_lt reserve regions then None else Some Reserve)
    else Some Helpers) else Some Mutators) else Some RegionWords) else Some Regions

-- of the numbers of a trace: a region has at most 1,024 words
abbrev pub fault_of : ℕ → ℕ → ℕ → ℕ → ℕ → Option BadConfig
fault_of = fault_within 1024

-- of the numbers of any heap: a region has at most 2^25 words
abbrev pub wide_fault_of : ℕ → ℕ → ℕ → ℕ → ℕ → Option BadConfig
wide_fault_of = fault_within 33554432
