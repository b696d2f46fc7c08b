-- That words which hold a graph hold it after a call, in some way.
use Rattle.std.specs.Prelude.{ℕ, ◌≡◌, ◌≢◌, ◌+◌, ◌<◌, ◌≤◌, ◌&&◌, ◌||◌, not, Bool, if◌then◌else◌, Option, None, Some, true, false}
use Rattle.std.specs.Option.{option_map}
use Rattle.heap_words.specs.declared.config.Config.{Config}
use Rattle.heap_words.specs.Words.{Word, Phase, Cset, Top, Tams, Pin, Heap}
use Rattle.heap_words.specs.Encoding.{is_forwarded, refs_in}
use Rattle.heap_words.specs.Phases.{evacuation_phase}
use Rattle.shen_graph.specs.Graph.{Graph}
use Rattle.regions.specs.Sets.{IsIn}
use Rattle.regions.specs.Place.{region_with}
use Rattle.heap_world.specs.World.{Block, Plot, filler, words_of, AreYoungRooms, HasNoRoom, IsCollected}
use Rattle.image_graph.specs.Held.{IsAmong}
use Rattle.image_graph.specs.Full.{held_words}
use Rattle.image_graph.specs.Pinned.{is_pinned}
use Rattle.image_graph.specs.Promised.{Promises}
use Rattle.image_graph.specs.State.{EndsIn}
use Rattle.image_graph.specs.Holds.{HoldsBy, AreSized, HasObject}
use Rattle.image_graph.specs.Buffers.{settled_block}
use Rattle.cycle_words.specs.Marking.Marks.{is_black, IsKept}
use Rattle.cycle_words.specs.Marking.Final.{freed_block, freed_owner}
use Rattle.cycle_words.specs.Marking.WhileMarking.{CanBeReached}
use Rattle.cycle_words.specs.Evacuation.Begun.{is_collected}
use Rattle.cycle_words.specs.Updating.Changes.{is_chosen}
use Rattle.cycle_words.specs.Finishing.Finish.{is_to_free, is_to_stay, has_moved}

-- Each piece of one division is one of another, at the same address.
abbrev pub PiecesStay : (block pieces : Plot) → Type 0
PiecesStay block pieces = (address : ℕ) (piece : Block) → block address ≡ Some piece → pieces address ≡ Some piece

-- The words hold the graph afterwards, by a division that has all pieces of before, with the same owners and promises; and where each piece
-- said how many words it has, each does.
pub record HoldsStill (config : Config) (before after : Word → ℕ) (block : Plot) (owner : ℕ → Option ℕ) (promises : Promises) (graph : Graph) : Type 0 where
  pub pieces : Plot
  pub stay : PiecesStay block pieces
  pub holds : HoldsBy config after pieces owner promises graph
  pub sized : AreSized before block → AreSized after pieces

-- What is marked in the collection set are objects.
abbrev pub AreMarkedObjects : Config → (Word → ℕ) → Plot → Type 0
AreMarkedObjects config memory block = (address : ℕ) → is_collected config memory address ≡ true → is_black config memory address ≡ true → HasObject block address

-- Nothing that can be reached lies in the collection set, but in pinned regions.
abbrev pub NothingInside : Config → (Word → ℕ) → Type 0
NothingInside config memory = (address : ℕ) → CanBeReached config memory address → IsCollected config (memory Cset) address → is_pinned config memory (region_with config address) ≡ true

-- While a region is in the collection set: what is marked there are objects; each object that can be reached is kept; nothing was allocated
-- in the set since marking began, no buffer lies there, and what is allocated from now on is new; and once objects are not evacuated any more nothing that can be reached lies there, but in pinned regions.
pub record WhileCollecting (config : Config) (memory : Word → ℕ) (block : Plot) : Type 0 where
  pub marked : AreMarkedObjects config memory block
  pub reachable : memory Cset ≢ 0 → (a : ℕ) → CanBeReached config memory a → IsKept config memory a
  pub no_new : (region : ℕ) → IsIn (memory Cset) region → memory (Top region) ≡ memory (Tams region)
  pub floors : memory Cset ≢ 0 → (region : ℕ) → region < config.regions → memory (Tams region) ≤ memory (Top region)
  pub young : memory Cset ≢ 0 → AreYoungRooms config (λ region. memory (Tams region)) block
  pub unseated : (seat region : ℕ) → EndsIn config memory seat region → IsIn (memory Cset) region → ⊥
  pub outside : memory Phase ≢ evacuation_phase → NothingInside config memory

-- So words hold the graph, with the same collection set, and finishing the cycle keeps it, if it did.
pub record HoldsCopied (config : Config) (before after : Word → ℕ) (block : Plot) (owner : ℕ → Option ℕ) (promises : Promises) (graph : Graph) : Type 0 where
  pub still : HoldsStill config before after block owner promises graph
  pub set : after Cset ≡ before Cset
  pub collecting : WhileCollecting config before block → WhileCollecting config after still.pieces

-- no pin slot holds an address
abbrev pub IsUnpinned : Config → (Word → ℕ) → ℕ → Type 0
IsUnpinned config memory address = (mutator index : ℕ) → mutator < config.mutators → index < 4 → memory (Pin mutator index) ≢ address

-- Whatever graph the words held, in whatever way, they hold it once the object at an address was copied out, if it is one that has not
-- moved and that no pin slot holds, and finishing the cycle keeps it then, ..
abbrev pub CopyingHolds : Config → (before after : Word → ℕ) → ℕ → Type 0
CopyingHolds config before after address = (block : Plot) (owner : ℕ → Option ℕ) (promises : Promises) (graph : Graph) → HoldsBy config before block owner promises graph → AreSized before block
    → HasObject block address → is_forwarded (before (Heap address)) ≡ false → IsUnpinned config before address → HoldsCopied config before after block owner promises graph

-- .. once evacuation has begun, from words without a collection set, ..
abbrev pub BeginningHolds : Config → (before after : Word → ℕ) → Type 0
BeginningHolds config before after = (block : Plot) (owner : ℕ → Option ℕ) (promises : Promises) (graph : Graph) → HoldsBy config before block owner promises graph → before Cset ≡ 0
    → HoldsStill config before after block owner promises graph

-- .. once all references were updated, in the same way, where nobody has a buffer, ..
pub record HoldsUpdated (config : Config) (after : Word → ℕ) (block : Plot) (owner : ℕ → Option ℕ) (promises : Promises) (graph : Graph) : Type 0 where
  pub holds : HoldsBy config after block owner promises graph
  pub sized : AreSized after block

abbrev pub UpdatingHolds : Config → (before after : Word → ℕ) → Type 0
UpdatingHolds config before after = (block : Plot) (owner : ℕ → Option ℕ) (promises : Promises) (graph : Graph) → HoldsBy config before block owner promises graph → AreSized before block
    → HasNoRoom block → HoldsUpdated config after block owner promises graph

-- .. where the updating of references begins, in the same way but for buffers, which were settled, and finishing the cycle keeps it then, if nothing that can be reached lies
-- in the set, ..
pub record HoldsLimited (config : Config) (before after : Word → ℕ) (block : Plot) (owner : ℕ → Option ℕ) (promises : Promises) (graph : Graph) : Type 0 where
  pub holds : HoldsBy config after (settled_block config before block) owner promises graph
  pub sized : AreSized before block → AreSized after (settled_block config before block)
  pub collecting : WhileCollecting config before block → NothingInside config before → WhileCollecting config after (settled_block config before block)

abbrev pub LimitsHold : Config → (before after : Word → ℕ) → Type 0
LimitsHold config before after = (block : Plot) (owner : ℕ → Option ℕ) (promises : Promises) (graph : Graph) → HoldsBy config before block owner promises graph
    → HoldsLimited config before after block owner promises graph

-- Nothing names an address of the collection set: no root, no answer and no pin slot, and no field of what can be reached; and no buffer lies
-- there.
pub record NothingNames (config : Config) (memory : Word → ℕ) : Type 0 where
  pub roots : (word : ℕ) → IsAmong (held_words config memory) word → word ≢ 0 → IsCollected config (memory Cset) word → ⊥
  pub fields : (address i : ℕ) → CanBeReached config memory address → i < refs_in (memory (Heap (address + 1))) → memory (Heap (address + 3 + i)) ≢ 0
      → IsCollected config (memory Cset) (memory (Heap (address + 3 + i))) → ⊥
  pub unseated : (seat region : ℕ) → EndsIn config memory seat region → IsIn (memory Cset) region → ⊥

-- .. once the set was freed, where nothing names it, by the pieces that lie outside, ..
pub record HoldsOutside (config : Config) (before after : Word → ℕ) (block : Plot) (owner : ℕ → Option ℕ) (promises : Promises) (graph : Graph) : Type 0 where
  pub holds : HoldsBy config after (freed_block config (is_chosen before) block) (freed_owner (is_chosen before) owner) promises graph
  pub sized : AreSized before block → AreSized after (freed_block config (is_chosen before) block)

abbrev pub EndingHolds : Config → (before after : Word → ℕ) → Type 0
EndingHolds config before after = (block : Plot) (owner : ℕ → Option ℕ) (promises : Promises) (graph : Graph) → HoldsBy config before block owner promises graph → NothingNames config before
    → HoldsOutside config before after block owner promises graph

-- What goes when a cycle is finished: all of the collection set, but what has not moved in pinned regions.
abbrev pub is_going : Config → (Word → ℕ) → ℕ → Bool
is_going config memory address = is_collected config memory address && (not (is_pinned config memory (region_with config address)) || is_forwarded (memory (Heap address)))

-- Nothing names what goes: no root, no answer and no pin slot, and no field of what can be reached; and no buffer lies in the set.
pub record NothingNamesGone (config : Config) (memory : Word → ℕ) : Type 0 where
  pub roots : (word : ℕ) → IsAmong (held_words config memory) word → word ≢ 0 → is_going config memory word ≡ false
  pub fields : (address i : ℕ) → CanBeReached config memory address → i < refs_in (memory (Heap (address + 1))) → memory (Heap (address + 3 + i)) ≢ 0
      → is_going config memory (memory (Heap (address + 3 + i))) ≡ false
  pub unseated : (seat region : ℕ) → EndsIn config memory seat region → IsIn (memory Cset) region → ⊥

-- The pieces that are left then: what was freed has none, and what has moved in pinned regions only fills.
abbrev pub piece_left : (moved : Bool) → Block → Block
piece_left moved piece = if moved then filler (words_of piece) else piece

abbrev pub left_block : Config → (Word → ℕ) → Plot → Plot
left_block config memory block address =
    if is_to_free config memory (region_with config address) then None else option_map (piece_left (is_to_stay config memory (region_with config address) && has_moved memory address)) (block address)

-- .. once the set was freed and pinned regions of it filled, where nothing names what goes, by the pieces that are left, ..
pub record HoldsLeft (config : Config) (before after : Word → ℕ) (block : Plot) (owner : ℕ → Option ℕ) (promises : Promises) (graph : Graph) : Type 0 where
  pub holds : HoldsBy config after (left_block config before block) (freed_owner (is_to_free config before) owner) promises graph
  pub sized : AreSized after (left_block config before block)

abbrev pub LeavingHolds : Config → (before after : Word → ℕ) → Type 0
LeavingHolds config before after = (block : Plot) (owner : ℕ → Option ℕ) (promises : Promises) (graph : Graph) → HoldsBy config before block owner promises graph → AreSized before block
    → NothingNamesGone config before → HoldsLeft config before after block owner promises graph

-- .. and in some way, in which each piece says how many words it has, once the cycle was finished.
pub record HoldsAnew (config : Config) (after : Word → ℕ) (graph : Graph) : Type 0 where
  pub pieces : Plot
  pub owner : ℕ → Option ℕ
  pub promises : Promises
  pub holds : HoldsBy config after pieces owner promises graph
  pub sized : AreSized after pieces

abbrev pub FinishingHolds : Config → (before after : Word → ℕ) → Type 0
FinishingHolds config before after = (block : Plot) (owner : ℕ → Option ℕ) (promises : Promises) (graph : Graph) → HoldsBy config before block owner promises graph → AreSized before block
    → WhileCollecting config before block → HoldsAnew config after graph
