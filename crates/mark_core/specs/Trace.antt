-- When what marking has still to come to can be found.
use Rattle.std.specs.Prelude.{ℕ, ◌≢◌, ◌+◌, ◌<◌, ◌≤◌}
use Rattle.heap_words.specs.declared.config.Config.{Config}
use Rattle.heap_words.specs.Words.{Word, Root, Count, Answer, Pin, Heap, IsWord}
use Rattle.heap_words.specs.Encoding.{refs_in}
use Rattle.image_graph.specs.Plot.{heap_end}
use Rattle.cycle_words.specs.Marking.Close.{IsTraced}

-- a word is null or an address of the heap
abbrev pub IsNullOrInside : Config → ℕ → Type 0
IsNullOrInside config word = word ≢ 0 → IsWord config (Heap word)

-- roots, pin slots, and answers that are addresses, are null or of the heap
pub record HasRootsInside (config : Config) (memory : Word → ℕ) : Type 0 where
  pub roots : (mutator index : ℕ) → mutator < config.mutators → index < 16 → IsNullOrInside config (memory (Root mutator index))
  pub pins : (mutator index : ℕ) → mutator < config.mutators → index < 4 → IsNullOrInside config (memory (Pin mutator index))
  pub answers : (mutator : ℕ) → mutator < config.mutators → 1 < memory (Answer mutator) → IsNullOrInside config (memory (Answer mutator))

-- what tracing comes to lies in the heap with its references, and no buffer has more entries than it has room for
pub record CanTrace (config : Config) (memory : Word → ℕ) : Type 0 where
  pub above : (address : ℕ) → IsTraced config memory address → config.region_words ≤ address
  pub below : (address : ℕ) → IsTraced config memory address → address + 3 + refs_in (memory (Heap (address + 1))) ≤ heap_end config
  pub counts : (mutator : ℕ) → mutator < config.mutators → memory (Count mutator) ≤ 8
