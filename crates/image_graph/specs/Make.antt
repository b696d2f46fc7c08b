-- Parts of the heap that are written when an object is made.
use Rattle.std.specs.Prelude.{ℕ, ◌+◌, ◌*◌, ◌<◌, ◌≤◌, ◌&&◌, nat_le, nat_lt, if◌then◌else◌}
use Rattle.heap_words.specs.declared.config.Config.{Config}
use Rattle.heap_words.specs.Words.{Word, Top, Heap}

-- a memory after so many words of the heap were cleared, from an address on
abbrev pub heap_cleared : (address words : ℕ) → (Word → ℕ) → Word → ℕ
heap_cleared address words memory (Heap asked_address) = if nat_le address asked_address && nat_lt asked_address (address + words) then 0 else memory (Heap asked_address)
heap_cleared address words memory word = memory word

-- so many words from an address on are of the heap
pub record AreInHeap (config : Config) (address words : ℕ) : Type 0 where
  pub from : config.region_words ≤ address
  pub to : address + words ≤ (config.regions + 1) * config.region_words

-- no region uses more words than it has
abbrev pub AreWithin : Config → (Word → ℕ) → Type 0
AreWithin config memory = (region : ℕ) → region < config.regions → memory (Top region) ≤ config.region_words
