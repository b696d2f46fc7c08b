-- Why finishing a cycle falls short: an object found no room to be copied to, or a request none to be served. And which fields are updated.
use Rattle.std.specs.Prelude.{ℕ, ◌≡◌, ◌≢◌, ◌+◌, ◌^◌, ◌<◌, ◌↔◌, true, false, Option, Some, None}
use Rattle.heap_words.specs.declared.config.Config.{Config}
use Rattle.heap_words.specs.Words.{Word, Cset, Wait, Heap}
use Rattle.heap_words.specs.Encoding.{is_forwarded, refs_in}
use Rattle.regions.specs.Place.{region_with}
use Rattle.shen_graph.specs.Graph.{Graph}
use Rattle.heap_world.specs.World.{Block, Plot, is_loose, HasNoRoom}
use Rattle.image_graph.specs.Full.{served}
use Rattle.image_graph.specs.Promised.{Promises}
use Rattle.image_graph.specs.Left.{IsLeft}
use Rattle.image_graph.specs.Holds.{HoldsBy, AreSized}
use Rattle.cycle_words.specs.Marking.Marks.{IsKept}
use Rattle.image_graph.specs.Buffers.{HasNoMoreSeats}
use Rattle.cycle_words.specs.Evacuation.Copied.{copy_room}
use Rattle.cycle_words.specs.Finishing.Copies.{is_left, all_copied, is_room_for_all}
use Rattle.cycle_words.specs.Finishing.Finish.{nobody_waits, CanFinish}
use Rattle.cycle_words.specs.Finishing.Updated.{stays, is_kept_field, all_updated, CanUpdateAll}
use Rattle.cycle_words.specs.StillHolds.{NothingInside, NothingNamesGone, WhileCollecting}

-- An object is left in the collection set, and no region outside has room for it.
pub record IsStuck (config : Config) (memory : Word → ℕ) : Type 0 where
  pub object : ℕ
  pub left : is_left config memory object ≡ true
  pub no_room : copy_room config memory object ≡ None

-- So it is of the words at which copying ends early.
abbrev pub StopsForRoom : Type 0
StopsForRoom = (config : Config) (memory : Word → ℕ) → is_room_for_all config memory ≡ false → IsStuck config (all_copied config memory)

-- Nobody waits after requests were served exactly where none was left. Who waits then was left, and who was left waits.
pub record ServesAll (config : Config) (memory : Word → ℕ) : Type 0 where
  pub nobody : (nobody_waits config (served config memory config.mutators) ≡ true) ↔ ((mutator : ℕ) → IsLeft config memory mutator → ⊥)
  pub waits : (mutator : ℕ) → mutator < config.mutators → (served config memory config.mutators (Wait mutator) ≢ 0) ↔ IsLeft config memory mutator

abbrev pub ServingServesAll : Type 0
ServingServesAll = (config : Config) (memory : Word → ℕ) → ServesAll config memory

-- An address is that of a reference of a kept object that stays: outside the collection set, or in a pinned region of it, an object lies that has
-- not moved, and is marked or was allocated since marking began; and the address is one of the references that its shape word counts.
pub record IsFieldOfKept (config : Config) (memory : Word → ℕ) (block : Plot) (x : ℕ) : Type 0 where
  pub object : ℕ
  pub piece : Block
  pub here : block object ≡ Some piece
  pub is_object : is_loose piece ≡ false
  pub stays_there : stays config memory (region_with config object) ≡ true
  pub unmoved : is_forwarded (memory (Heap object)) ≡ false
  pub kept : IsKept config memory object
  pub field : ℕ
  pub few : field < refs_in (memory (Heap (object + 1)))
  pub at : x ≡ object + 3 + field

-- Where the words hold a graph, and nobody has a buffer, these are the fields that updating all references changes, though it finds them by
-- walking over the regions.
abbrev pub KeptFieldsAreFields : Type 0
KeptFieldsAreFields = (config : Config) (memory : Word → ℕ) (block : Plot) (owner : ℕ → Option ℕ) (promises : Promises) (graph : Graph) → HoldsBy config memory block owner promises graph → AreSized memory block
    → HasNoRoom block → (address : ℕ) → (is_kept_field config memory address ≡ true) ↔ IsFieldOfKept config memory block address

-- And references can be updated.
abbrev pub ReferencesCanBeUpdated : Type 0
ReferencesCanBeUpdated = (config : Config) (memory : Word → ℕ) (block : Plot) (owner : ℕ → Option ℕ) (promises : Promises) (graph : Graph) → HoldsBy config memory block owner promises graph → AreSized memory block
    → HasNoRoom block → memory Cset < 2 ^ config.regions → CanUpdateAll config memory

-- Where the words hold a graph, and a set of the heap's regions is collected so that finishing the cycle keeps it, the cycle can be
-- finished: what a marked object of the set says of its length is so, each time that one is copied out.
abbrev pub CollectingCanFinish : Type 0
CollectingCanFinish = (config : Config) (memory : Word → ℕ) (block : Plot) (owner : ℕ → Option ℕ) (promises : Promises) (graph : Graph) → HoldsBy config memory block owner promises graph → AreSized memory block
    → HasNoMoreSeats config memory → WhileCollecting config memory block → memory Cset < 2 ^ config.regions → CanFinish config memory

-- Where no object is left in the set, nothing that can be reached lies there but in pinned regions, ..
abbrev pub NoneLeftInside : Type 0
NoneLeftInside = (config : Config) (memory : Word → ℕ) (block : Plot) (owner : ℕ → Option ℕ) (promises : Promises) (graph : Graph) → HoldsBy config memory block owner promises graph → AreSized memory block
    → WhileCollecting config memory block → ((address : ℕ) → is_left config memory address ≡ false) → NothingInside config memory

-- .. and then nothing names what goes once all references were updated: it may be freed, and what has moved in pinned regions filled over.
abbrev pub UpdatedNamesNothing : Type 0
UpdatedNamesNothing = (config : Config) (memory : Word → ℕ) (block : Plot) (owner : ℕ → Option ℕ) (promises : Promises) (graph : Graph) → HoldsBy config memory block owner promises graph → AreSized memory block
    → HasNoRoom block → WhileCollecting config memory block → NothingInside config memory → NothingNamesGone config (all_updated config memory)
