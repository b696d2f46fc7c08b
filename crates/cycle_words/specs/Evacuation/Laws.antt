-- That the choice is exactly the longest front of the candidates that fits, and that what it has can be copied.
use Rattle.std.specs.Prelude.{ℕ, ◌≡◌, ◌+◌, ◌^◌, ◌<◌, ◌≤◌, ◌↔◌, Option, true, Bool, if◌then◌else◌, List, length, slice_index, Some, None}
use Rattle.heap_words.specs.declared.config.Config.{Config}
use Rattle.heap_words.specs.Words.{Word, Cset}
use Rattle.regions.specs.Places.{LieApart}
use Rattle.regions.specs.Tops.{sum_below}
use Rattle.shen_graph.specs.Graph.{Graph}
use Rattle.heap_world.specs.World.{Block, Plot, words_of}
use Rattle.image_graph.specs.Promised.{Promises}
use Rattle.image_graph.specs.Holds.{HoldsBy, AreSized, HasObject}
use Rattle.cycle_words.specs.Marking.Marks.{is_black}
use Rattle.cycle_words.specs.Marking.WhileMarking.{IsObjectAt, CanBeReached, IsMarking, IsMarkedThrough}
use Rattle.cycle_words.specs.Marking.Final.{dead_in, freed_owner, final_marked}
use Rattle.image_graph.specs.Buffers.{HasNoMoreSeats}
use Rattle.regions.specs.Place.{base_of, region_with}
use Rattle.regions.specs.Sets.{IsIn}
use Rattle.cycle_words.specs.Evacuation.Live.{marked_words, live_words, is_candidate, IsCandidate}
use Rattle.cycle_words.specs.Evacuation.Front.{FrontsAreTaken}
use Rattle.cycle_words.specs.Evacuation.Choice.{IsChoice, chosen}
use Rattle.cycle_words.specs.Evacuation.Copying.{AreToCopy, FindsRoom}
use Rattle.cycle_words.specs.Evacuation.Copied.{CanCopyOut, copy_room, copied_out, copied_by, IsCopiedOut}
use Rattle.cycle_words.specs.Evacuation.Begun.{with_set, roots_cleared, evac_begun, FreeAreEmpty, CanBegin, AreCleared}
use Rattle.cycle_words.specs.StillHolds.{WhileCollecting}

-- The test of a candidate says what it is to be one.
abbrev pub CandidateIsCandidate : Type 0
CandidateIsCandidate = (config : Config) (memory : Word → ℕ) (region : ℕ) → (is_candidate config memory region ≡ true) ↔ IsCandidate config memory region

-- What is chosen is the choice, and there is no other.
pub record ChosenIsTheChoice : Type 0 where
  pub is : (config : Config) (memory : Word → ℕ) → IsChoice config memory (chosen config memory)
  pub only : (config : Config) (memory : Word → ℕ) (set : ℕ) → IsChoice config memory set → set ≡ chosen config memory

-- It is what is taken candidate by candidate while it fits.
abbrev pub ChoiceIsTaken : Type 0
ChoiceIsTaken = (regions limit : ℕ) (live : ℕ → ℕ) (candidate : ℕ → Bool) → FrontsAreTaken regions limit live candidate

-- Whichever marked objects of the chosen regions are copied, and in whatever order: each finds room at its turn. Else each
-- region that was free would hold more than may be copied to it.
abbrev pub RoomIsFound : Type 0
RoomIsFound = (config : Config) (memory : Word → ℕ) (objects : List ℕ) → FreeAreEmpty config memory → AreToCopy config memory (chosen config memory) objects
    → (turn : ℕ) → turn < length objects → FindsRoom config memory (chosen config memory) objects turn

-- Copying an object of the collection set to a region that has room for it, outside of the set, does what it is said to do.
abbrev pub CopyingCopies : Type 0
CopyingCopies = (config : Config) (memory : Word → ℕ) (address region : ℕ) → config.region_words ≤ address → IsIn (memory Cset) (region_with config address) → copy_room config memory address ≡ Some region
    → IsCopiedOut config memory (copied_out config memory address) address

-- Whichever marked objects of the chosen regions are copied out, one after the other, where marked objects lie apart and each
-- in one region: none is left where it is.
abbrev pub EachIsCopied : Type 0
EachIsCopied = (config : Config) (memory : Word → ℕ) (objects : List ℕ) → FreeAreEmpty config memory → LieApart config.region_words (marked_words config memory)
    → memory Cset ≡ chosen config memory → AreToCopy config memory (chosen config memory) objects
    → (turn : ℕ) → turn < length objects
    → IsCopiedOut config (copied_by config memory objects turn) (copied_by config memory objects (turn + 1)) (slice_index objects turn)

-- In the beginning of evacuation roots and answers are cleared.
abbrev pub RootsAreCleared : Type 0
RootsAreCleared = (config : Config) (memory : Word → ℕ) → CanBegin config memory
    → (objects : List ℕ) × AreCleared config (with_set memory (chosen config memory)) (roots_cleared config memory (chosen config memory)) objects

-- Where marking has run, evacuation can begin once it is ended: what is marked are objects, and what roots and answers name is
-- marked, or new, and no chosen region has a new object.
abbrev pub EvacuationCanBegin : Type 0
EvacuationCanBegin = (config : Config) (memory : Word → ℕ) (block : Plot) (owner : ℕ → Option ℕ) (promises : Promises) (graph : Graph)
    → HoldsBy config memory block owner promises graph → IsMarking config memory block → HasNoMoreSeats config memory → CanBegin config (final_marked config memory)

-- So it can begin wherever the words hold a graph, no region is collected, what can be reached is kept, and what is marked is an object.
abbrev pub MarkedCanBegin : Type 0
MarkedCanBegin = (config : Config) (memory : Word → ℕ) (block : Plot) (owner : ℕ → Option ℕ) (promises : Promises) (graph : Graph)
    → HoldsBy config memory block owner promises graph → IsMarkedThrough config memory block → memory Cset ≡ 0
    → ((address : ℕ) → is_black config memory address ≡ true → IsObjectAt memory block address) → CanBegin config memory

-- An object of the collection set can be copied out.
abbrev pub ObjectCanBeCopied : Type 0
ObjectCanBeCopied = (config : Config) (memory : Word → ℕ) (block : Plot) (owner : ℕ → Option ℕ) (promises : Promises) (graph : Graph) → HoldsBy config memory block owner promises graph → AreSized memory block
    → (address : ℕ) → HasObject block address → IsIn (memory Cset) (region_with config address) → CanCopyOut config memory address

-- The words of a piece, if there is one, and those of the piece at an address if it is marked.
abbrev pub piece_words : Option Block → ℕ
piece_words None = 0
piece_words (Some piece) = words_of piece

abbrev pub marked_in : Config → (Word → ℕ) → Plot → ℕ → ℕ
marked_in config memory block address = if is_black config memory address then piece_words (block address) else 0

-- So many words are those of the objects of a region that are marked, where what is marked are objects.
abbrev pub IsMarkedIn : Config → (Word → ℕ) → (region words : ℕ) → Type 0
IsMarkedIn config memory region words = (block : Plot) → AreSized memory block → ((address : ℕ) → is_black config memory address ≡ true → HasObject block address)
    → words ≡ sum_below (λ k. marked_in config memory block (base_of config region + k)) config.region_words

-- That is what lives in the region.
abbrev pub LiveIsMarked : Type 0
LiveIsMarked = (config : Config) (memory : Word → ℕ) (region : ℕ) → IsMarkedIn config memory region (live_words config memory region)

-- Where the words hold a graph, and what can be reached is kept, each object of a set's regions that can be reached is marked, so that it
-- counts as live there.
abbrev pub ReachableAreLive : Config → (Word → ℕ) → (set : ℕ) → Type 0
ReachableAreLive config memory set = (block : Plot) (owner : ℕ → Option ℕ) (promises : Promises) (graph : Graph) → HoldsBy config memory block owner promises graph → IsMarkedThrough config memory block
    → (address : ℕ) → CanBeReached config memory address → IsIn set (region_with config address) → is_black config memory address ≡ true

-- So it is in the regions that are chosen, as nothing new is there.
abbrev pub ChosenAreLive : Type 0
ChosenAreLive = (config : Config) (memory : Word → ℕ) → ReachableAreLive config memory (chosen config memory)

-- The words hold the graph, each piece says how many words it has, and what finishing a cycle asks for holds, of a set of the heap's regions.
pub record HoldsCollecting (config : Config) (memory : Word → ℕ) (owner : ℕ → Option ℕ) (promises : Promises) (graph : Graph) : Type 0 where
  pub pieces : Plot
  pub holds : HoldsBy config memory pieces owner promises graph
  pub sized : AreSized memory pieces
  pub collecting : WhileCollecting config memory pieces
  pub small : memory Cset < 2 ^ config.regions

-- So it is once marking was ended and evacuation begun, by the one call and then the other.
abbrev pub EvacuationCollects : Type 0
EvacuationCollects = (config : Config) (memory : Word → ℕ) (block : Plot) (owner : ℕ → Option ℕ) (promises : Promises) (graph : Graph) → HoldsBy config memory block owner promises graph → AreSized memory block
    → IsMarking config memory block → HasNoMoreSeats config memory
    → HoldsCollecting config (evac_begun config (final_marked config memory) (chosen config (final_marked config memory))) (freed_owner (dead_in config memory) owner) promises graph
