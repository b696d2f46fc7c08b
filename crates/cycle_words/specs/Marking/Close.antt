-- What closing the marks makes of the words of an image: marking is brought to its end in the pause.
use Rattle.std.specs.Prelude.{ℕ, ◌≡◌, ◌≢◌, ◌+◌, ◌*◌, ◌<◌, if◌then◌else◌, true, false, List, [], ◌∷◌, ◌++◌, map, zero, suc}
use Rattle.std.specs.List.{range_with_len}
use Rattle.std.specs.Int.RustNames.{bit_or}
use Rattle.heap_words.specs.declared.config.Config.{Config}
use Rattle.heap_words.specs.Words.{Word, Count, Buffer, Grey, Black, Heap}
use Rattle.heap_words.specs.Encoding.{refs_in}
use Rattle.heap_world.specs.Walk.{has}
use Rattle.image_graph.specs.Held.{found_in}
use Rattle.image_graph.specs.Full.{field_words}
use Rattle.cycle_words.specs.Marking.Marks.{is_grey, is_black, mark_bits}

-- What closing the marks comes to: what is grey or an entry of a buffer, and what the fields of such a one name that was not
-- black.
pub data IsTraced (config : Config) (memory : Word → ℕ) : ℕ → Type 0 where
  from_grey : (address : ℕ) → is_grey config memory address ≡ true → IsTraced config memory address
  from_buffer : (mutator index : ℕ) → mutator < config.mutators → index < memory (Count mutator) → memory (Buffer mutator index) ≢ 0 → IsTraced config memory (memory (Buffer mutator index))
  from_field : (address index : ℕ) → IsTraced config memory address → is_black config memory address ≡ false → index < refs_in (memory (Heap (address + 1))) → memory (Heap (address + 3 + index)) ≢ 0
      → IsTraced config memory (memory (Heap (address + 3 + index)))

-- The same as a list, found in turns.

-- the grey ones among so many addresses from the heap's first on
abbrev pub greys_below : Config → (Word → ℕ) → ℕ → List ℕ
greys_below config memory zero = []
greys_below config memory (suc offset) = greys_below config memory offset ++ (if is_grey config memory (config.region_words + offset) then (config.region_words + offset) ∷ [] else [])

-- the entries of the buffers of so many mutators
abbrev pub entries_below : (Word → ℕ) → ℕ → List ℕ
entries_below memory zero = []
entries_below memory (suc mutator) = entries_below memory mutator ++ map (λ entry. memory (Buffer mutator entry)) (range_with_len 0 (memory (Count mutator)))

-- where tracing begins
abbrev pub starts_in : Config → (Word → ℕ) → List ℕ
starts_in config memory = greys_below config memory (config.regions * config.region_words) ++ entries_below memory config.mutators

-- what an object leads to: its fields, unless it was black
abbrev pub open_fields : Config → (Word → ℕ) → ℕ → List ℕ
open_fields config memory address = if is_black config memory address then [] else field_words memory address

-- the addresses that tracing has found after so many turns, and all of them
abbrev pub traced_by : Config → (Word → ℕ) → ℕ → List ℕ
traced_by config memory = found_in (open_fields config memory) (starts_in config memory)

abbrev pub traced_in : Config → (Word → ℕ) → List ℕ
traced_in config memory = traced_by config memory (config.regions * config.region_words)

-- What tracing comes to becomes grey and black, and the buffers are empty. All other words stay.
abbrev pub closed : Config → (Word → ℕ) → Word → ℕ
closed config memory (Grey number) = bit_or (memory (Grey number)) (mark_bits config (has (traced_in config memory)) number)
closed config memory (Black number) = bit_or (memory (Black number)) (mark_bits config (has (traced_in config memory)) number)
closed config memory (Count mutator) = 0
closed config memory word = memory word
