-- Buffers by their words in an image: in which region one lies, and whether it is the last there.
use Rattle.std.specs.Prelude.{ℕ, ◌≢◌, ◌+◌, ◌-◌, ◌<◌, ◌≤◌, ◌==◌, nat_lt, if◌then◌else◌, Bool}
use Rattle.heap_words.specs.declared.config.Config.{Config}
use Rattle.heap_words.specs.Ranges.{seat_count}
use Rattle.heap_words.specs.Words.{Word, Top, Current, Heap, write}
use Rattle.heap_words.specs.Encoding.{next_in, end_in, filler_header}
use Rattle.regions.specs.Place.{base_of, region_with}

-- the region of a buffer, by its word, which is not 0
abbrev pub buffer_region : Config → ℕ → ℕ
buffer_region config word = region_with config (end_in word - 1)

-- it ends at the top of that region
abbrev pub is_last : Config → (Word → ℕ) → ℕ → Bool
is_last config memory word = end_in word == base_of config (buffer_region config word) + memory (Top (buffer_region config word))

-- a buffer lies in one region of the heap, by its word
pub record IsInside (config : Config) (word : ℕ) : Type 0 where
  pub region : buffer_region config word < config.regions
  pub from_base : base_of config (buffer_region config word) ≤ next_in word
  pub ordered : next_in word ≤ end_in word
  pub to_end : end_in word ≤ base_of config (buffer_region config word) + config.region_words

-- each buffer does
abbrev pub AreInside : Config → (Word → ℕ) → Type 0
AreInside config memory = (seat : ℕ) → seat < seat_count config.mutators config.helpers → memory (Current seat) ≢ 0 → IsInside config (memory (Current seat))

-- The words after the free words of a buffer, if it has some, were made words that only fill: the first says how many they are.
abbrev pub filled_over : (Word → ℕ) → ℕ → Word → ℕ
filled_over memory word = if nat_lt (next_in word) (end_in word) then write memory (Heap (next_in word)) (filler_header (end_in word - next_in word)) else memory
