-- What each step of a full collection makes of the words of an image.
use Rattle.std.specs.Prelude.{ℕ, ◌≡◌, ◌==◌, ◌&&◌, nat_le, nat_lt, if◌then◌else◌, Bool, List, slice_index}
use Rattle.heap_words.specs.declared.config.Config.{Config}
use Rattle.heap_words.specs.Words.{Word, Phase, Cset, Evac, Claim, Ask, Top, Tams, Limit, Current, Root, Count, Wait, Answer, Grey, Black, Heap, Share}
use Rattle.heap_words.specs.Phases.{idle_phase}
use Rattle.regions.specs.Slide.{renewed}
use Rattle.regions.specs.Table.{from_table, IsInTable}
use Rattle.image_graph.specs.Full.{moved_heap, top_then}

-- the words after the kept objects were packed: the heap and the tops
abbrev pub moved_in : Config → (shut : ℕ → Bool) (now kept : ℕ → ℕ) → (Word → ℕ) → Word → ℕ
moved_in config shut now kept memory (Heap address) = moved_heap config shut now kept memory address
moved_in config shut now kept memory (Top region) = top_then config shut kept memory region
moved_in config shut now kept memory word = memory word

-- a word is renewed by the table of new places as it should be
pub record IsRenewedAs (first : ℕ) (place now : ℕ → ℕ) (places : List ℕ) (word : ℕ) : Type 0 where
  pub in_table : IsInTable first places word
  pub renewed_as : from_table first places word ≡ renewed place now word

-- what a root or an answer becomes: 0 and 1 are no address
abbrev pub renewed_by : (first : ℕ) (places : List ℕ) → ℕ → ℕ
renewed_by first places word = if nat_le word 1 then word else from_table first places word

-- the words after roots and answers were renewed
abbrev pub roots_renewed : Config → List ℕ → (Word → ℕ) → Word → ℕ
roots_renewed config places memory (Root mutator index) = renewed_by config.region_words places (memory (Root mutator index))
roots_renewed config places memory (Answer mutator) = renewed_by config.region_words places (memory (Answer mutator))
roots_renewed config places memory word = memory word

-- the words when nothing is left of a collection in progress
abbrev pub calm : (Word → ℕ) → Word → ℕ
calm memory Phase = idle_phase
calm memory Cset = 0
calm memory Evac = 0
calm memory Claim = 0
calm memory Ask = 0
calm memory (Tams region) = 0
calm memory (Limit region) = 0
calm memory (Current seat) = 0
calm memory Share = 0
calm memory (Count mutator) = 0
calm memory (Grey number) = 0
calm memory (Black number) = 0
calm memory word = memory word

-- the words after each request of so many threads that was left was refused
abbrev pub refused_below : ℕ → (Word → ℕ) → Word → ℕ
refused_below mutators memory (Answer mutator) = if nat_lt mutator mutators then (if memory (Wait mutator) == 0 then memory (Answer mutator) else 1) else memory (Answer mutator)
refused_below mutators memory (Wait mutator) = if nat_lt mutator mutators then 0 else memory (Wait mutator)
refused_below mutators memory word = memory word

-- a list after each number of a range of places was changed
abbrev pub IsChanged : (from to : ℕ) → (ℕ → ℕ) → (before after : List ℕ) → Type 0
IsChanged from to change before after =
    (index : ℕ) → slice_index after index ≡ (if nat_le from index && nat_lt index to then change (slice_index before index) else slice_index before index)
