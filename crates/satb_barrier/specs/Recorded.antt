-- What a mutator has recorded, by the words alone.
use Rattle.std.specs.Prelude.{ℕ, ◌≡◌, ◌<◌, ◌≤◌, ◌⊎◌}
use Rattle.std.specs.Int.{bit_at}
use Rattle.heap_words.specs.declared.config.Config.{Config}
use Rattle.heap_words.specs.Words.{Word, Count, Buffer, Grey, Heap, IsWord}
use Rattle.regions.specs.Marks.{HasMark}

-- the words of grey bits
abbrev pub greys_in : (Word → ℕ) → ℕ → ℕ
greys_in memory number = memory (Grey number)

-- an address is in the buffer of a mutator, below its count
abbrev pub IsBuffered : (Word → ℕ) → ℕ → ℕ → Type 0
IsBuffered memory mutator address = (index : ℕ) × (index < memory (Count mutator)) × (memory (Buffer mutator index) ≡ address)

-- an address is recorded by a mutator: it is grey, or in the mutator's buffer
abbrev pub IsRecorded : Config → (Word → ℕ) → ℕ → ℕ → Type 0
IsRecorded config memory mutator address = HasMark config (greys_in memory) address ⊎ IsBuffered memory mutator address

-- the buffer of a mutator is one: it has at most 8 entries, which are addresses of the heap
pub record IsSatbBuffer (config : Config) (memory : Word → ℕ) (mutator : ℕ) : Type 0 where
  pub few : memory (Count mutator) ≤ 8
  pub addresses : (index : ℕ) → index < memory (Count mutator) → IsWord config (Heap (memory (Buffer mutator index)))

-- What other machines may do between two steps of a mutator that records: they leave its count and its buffer as they are, and
-- what is grey stays grey.
pub record LeaveBuffer (mutator : ℕ) (before after : Word → ℕ) : Type 0 where
  pub count : after (Count mutator) ≡ before (Count mutator)
  pub entries : (index : ℕ) → index < 8 → after (Buffer mutator index) ≡ before (Buffer mutator index)
  pub greys : (number bit : ℕ) → bit < 64 → bit_at (before (Grey number)) bit ≡ 1 → bit_at (after (Grey number)) bit ≡ 1
