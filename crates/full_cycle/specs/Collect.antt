-- When what an image's roots, answers and pin slots lead to can be packed.
use Rattle.std.specs.Prelude.{ℕ, ◌≡◌, ◌≢◌, ◌+◌, ◌<◌, ◌≤◌, ◌==◌, if◌then◌else◌, true, List, slice_get, Option, Some}
use Rattle.heap_words.specs.declared.config.Config.{Config}
use Rattle.heap_words.specs.Words.{Word, Root, Answer, Pin, Heap}
use Rattle.heap_words.specs.Encoding.{refs_in}
use Rattle.regions.specs.Places.{LieApart}
use Rattle.image_graph.specs.Held.{found_in}
use Rattle.image_graph.specs.Pinned.{is_pinned, CanFill}
use Rattle.image_graph.specs.Plot.{heap_end}
use Rattle.image_graph.specs.Full.{now_in, copies_of, field_words, held_words, kept_in}
use Rattle.image_graph.specs.Promised.{Promises}
use Rattle.shen_graph.specs.Graph.{Graph}
use Rattle.heap_world.specs.World.{Plot, HasNoRoom}
use Rattle.image_graph.specs.Holds.{HoldsBy, AreSized}

-- They hold some graph by pieces that can be walked: each says how many words it has, and none is room.
abbrev pub HoldsWalked : Config → (Word → ℕ) → Type 0
HoldsWalked config memory = ∥ ((graph : Graph) × (block : Plot) × (owner : ℕ → Option ℕ) × (promises : Promises) × HoldsBy config memory block owner promises graph × AreSized memory block × HasNoRoom block) ∥₁

-- the address of the current copy of what a word names; null stays null
abbrev pub current_address : (Word → ℕ) → ℕ → ℕ
current_address memory word = if word == 0 then 0 else now_in memory word

-- the addresses that are found in so many turns
abbrev pub found_in_turns : Config → (Word → ℕ) → ℕ → List ℕ
found_in_turns config memory = found_in (λ a. copies_of memory (field_words memory a)) (copies_of memory (held_words config memory))

-- a word is null, or the address of an object in the heap whose current copy is kept
abbrev pub LeadsToHeld : Config → (Word → ℕ) → ℕ → Type 0
LeadsToHeld config memory word = word ≢ 0 → (config.region_words ≤ word) × (word < heap_end config) × (0 < kept_in config memory (now_in memory word))

-- What is kept lies apart and in the heap and has not moved, whose turn comes is kept, and roots, answers, pin slots and the
-- references of what is kept lead to what is kept. What stands in pinned regions ends there, before their tops.
pub record CanCollect (config : Config) (memory : Word → ℕ) : Type 0 where
  pub apart : LieApart config.region_words (kept_in config memory)
  pub inside : (address : ℕ) → 0 < kept_in config memory address → address + kept_in config memory address ≤ heap_end config
  pub current : (address : ℕ) → 0 < kept_in config memory address → now_in memory address ≡ address
  pub found : (number address : ℕ) → slice_get (found_in_turns config memory number) number ≡ Some address → 0 < kept_in config memory address
  pub roots : (mutator index : ℕ) → mutator < config.mutators → index < 16 → LeadsToHeld config memory (memory (Root mutator index))
  pub answers : (mutator : ℕ) → mutator < config.mutators → 1 < memory (Answer mutator) → LeadsToHeld config memory (memory (Answer mutator))
  pub pins : (mutator index : ℕ) → mutator < config.mutators → index < 4 → LeadsToHeld config memory (memory (Pin mutator index))
  pub fills : (region : ℕ) → region < config.regions → is_pinned config memory region ≡ true → CanFill config memory region
  pub fields : (address index : ℕ) → 0 < kept_in config memory address → index < refs_in (memory (Heap (address + 1))) → LeadsToHeld config memory (memory (Heap (address + 3 + index)))
