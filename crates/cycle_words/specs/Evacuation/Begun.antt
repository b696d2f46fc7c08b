-- What the beginning of evacuation makes of the words of an image: what roots and answers name is copied out of the collection
-- set, so that they name nothing there, and the rest is left to be evacuated beside the threads.
use Rattle.std.specs.Prelude.{ℕ, ◌≡◌, ◌≢◌, ◌^◌, ◌<◌, ◌≤◌, ◌==◌, ◌&&◌, None, nat_le, if◌then◌else◌, Bool, true, false, List, [], ◌∷◌, ◌++◌, map, length, Contains, ⊤, zero, suc}
use Rattle.std.specs.List.{range_with_len}
use Rattle.std.specs.Int.{bit_at}
use Rattle.heap_words.specs.declared.config.Config.{Config}
use Rattle.heap_words.specs.Words.{Word, Phase, Cset, Free, Evac, Claim, Top, Root, Answer, Heap, same_word}
use Rattle.heap_words.specs.Encoding.{is_forwarded}
use Rattle.heap_words.specs.Phases.{idle_phase, evacuation_phase}
use Rattle.regions.specs.Place.{region_with}
use Rattle.regions.specs.Sets.{IsIn}
use Rattle.regions.specs.Places.{LieApart}
use Rattle.image_graph.specs.Full.{now_in}
use Rattle.image_graph.specs.Make.{AreWithin}
use Rattle.cycle_words.specs.Marking.Marks.{is_black}
use Rattle.cycle_words.specs.Evacuation.Live.{words_at, marked_words}
use Rattle.cycle_words.specs.Evacuation.Choice.{chosen}
use Rattle.cycle_words.specs.Evacuation.Copying.{AreToCopy}
use Rattle.cycle_words.specs.Evacuation.Copied.{CanCopyOut, copy_room, copied_out, copied_by}

-- the roots of so many mutators, and then their answers: the words that name objects, in the order in which they are cleared
abbrev pub root_places : (mutators : ℕ) → List Word
root_places zero = []
root_places (suc mutator) = root_places mutator ++ map (Root mutator) (range_with_len 0 16)

abbrev pub naming_places : Config → List Word
naming_places config = root_places config.mutators ++ map Answer (range_with_len 0 config.mutators)

abbrev pub IsNaming : Word → Type 0
IsNaming (Root mutator index) = ⊤
IsNaming (Answer mutator) = ⊤
IsNaming word = ⊥

-- a word is the address of something in the collection set
abbrev pub is_collected : Config → (Word → ℕ) → ℕ → Bool
is_collected config memory address = nat_le config.region_words address && (bit_at (memory Cset) (region_with config address) == 1)

-- the words after an object of the collection set was copied out, unless it had been before
abbrev pub moved_out : Config → (Word → ℕ) → ℕ → Word → ℕ
moved_out config memory address word = if is_forwarded (memory (Heap address)) then memory word else copied_out config memory address word

-- the words after one place was cleared: what it named in the collection set has a copy, and it names that
unfoldable pub cleared_at : Config → (Word → ℕ) → (place : Word) → Word → ℕ
cleared_at config memory place word = if is_collected config memory (memory place) then
    (if same_word place word then now_in (moved_out config memory (memory place)) (memory place) else moved_out config memory (memory place) word)
    else memory word

-- the words after these places were cleared, one after the other
unfoldable pub cleared_in_turn : Config → (Word → ℕ) → List Word → Word → ℕ
cleared_in_turn config memory [] word = memory word
cleared_in_turn config memory (place ∷ places) word = cleared_in_turn config (cleared_at config memory place) places word

-- the words with a collection set
abbrev pub with_set : (Word → ℕ) → (set : ℕ) → Word → ℕ
with_set memory set Cset = set
with_set memory set word = memory word

-- the words with a collection set that no root and no answer names
abbrev pub roots_cleared : Config → (Word → ℕ) → (set : ℕ) → Word → ℕ
roots_cleared config memory set = cleared_in_turn config (with_set memory set) (naming_places config)

-- evacuation runs: no copier is counted, and no unit is claimed
abbrev pub evac_started : (Word → ℕ) → Word → ℕ
evac_started memory Phase = evacuation_phase
evac_started memory Evac = 0
evac_started memory Claim = 0
evac_started memory word = memory word

-- without a region to evacuate the cycle ends
abbrev pub evac_spared : (Word → ℕ) → Word → ℕ
evac_spared memory Phase = idle_phase
evac_spared memory Cset = 0
evac_spared memory Claim = 0
evac_spared memory word = memory word

abbrev pub evac_begun : Config → (Word → ℕ) → (set : ℕ) → Word → ℕ
evac_begun config memory set word = if set == 0 then evac_spared memory word else evac_started (roots_cleared config memory set) word

-- What roots and answers name in the collection set can be copied: it is marked, of a region of the heap, and has at most 35
-- words.
pub record IsCopyable (config : Config) (memory : Word → ℕ) (address : ℕ) : Type 0 where
  pub marked : is_black config memory address ≡ true
  pub of_region : region_with config address < config.regions
  pub short : words_at memory address ≤ 35

-- no word of a free region is in use
abbrev pub FreeAreEmpty : Config → (Word → ℕ) → Type 0
FreeAreEmpty config memory = (region : ℕ) → region < config.regions → IsIn (memory Free) region → memory (Top region) ≡ 0

-- Evacuation can begin: only regions of the heap are free, and they are empty; no region uses more words than it has; marked
-- objects lie apart, each in one region, and none has moved; and what roots and answers name in the chosen regions can be
-- copied.
pub record CanBegin (config : Config) (memory : Word → ℕ) : Type 0 where
  pub free : memory Free < 2 ^ config.regions
  pub empty : FreeAreEmpty config memory
  pub within : AreWithin config memory
  pub apart : LieApart config.region_words (marked_words config memory)
  pub unmoved : (address : ℕ) → is_black config memory address ≡ true → is_forwarded (memory (Heap address)) ≡ false
  pub copyable : (place : Word) → Contains (naming_places config) place → is_collected config (with_set memory (chosen config memory)) (memory place) ≡ true
      → IsCopyable config memory (memory place)

-- Roots and answers were cleared, and for that these objects were copied out.
pub record AreCleared (config : Config) (before after : Word → ℕ) (objects : List ℕ) : Type 0 where
  pub to_copy : AreToCopy config before (before Cset) objects
  -- each of them was named
  pub named : (a : ℕ) → Contains objects a → (place : Word) × Contains (naming_places config) place × (before place ≡ a)
  -- other words are as copying them leaves them
  pub copied : (word : Word) → (IsNaming word → ⊥) → after word ≡ copied_by config before objects (length objects) word
  -- what named something in the collection set names its copy, which is outside; else it is as it was
  pub renewed : (place : Word) → Contains (naming_places config) place → after place ≡ (if is_collected config before (before place) then now_in after (before place) else before place)
  pub cleared : (place : Word) → Contains (naming_places config) place → is_collected config before (after place) ≡ false

-- what an address names can be cleared: if it is an object of the collection set that has not moved, it can be copied out, and
-- some region has room for it
pub record CanClear (config : Config) (memory : Word → ℕ) (address : ℕ) : Type 0 where
  pub set : memory Cset < 2 ^ config.regions
  pub object : is_collected config memory address ≡ true → is_forwarded (memory (Heap address)) ≡ false → CanCopyOut config memory address
  pub room : is_collected config memory address ≡ true → is_forwarded (memory (Heap address)) ≡ false → copy_room config memory address ≢ None

-- what these places name can be cleared, one after the other
unfoldable pub CanClearInTurn : Config → (Word → ℕ) → List Word → Type 0
CanClearInTurn config memory [] = ⊤
CanClearInTurn config memory (place ∷ places) = CanClear config memory (memory place) × CanClearInTurn config (cleared_at config memory place) places
