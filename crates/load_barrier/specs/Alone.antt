-- The resolving of an address by itself: the steps of the machine that resolves it, and between them whatever other machines do.
use Rattle.std.specs.Prelude.{ℕ, ◌≡◌, ◌+◌, ◌≤◌, ◌<◌, ◌^◌, Bool, true, false, ◌⊎◌, List, [], ◌∷◌, ⊤}
use Rattle.heap_words.specs.declared.config.Config.{Config}
use Rattle.heap_words.specs.Encoding.{next_in, plain_header, is_forwarded, object_words}
use Rattle.heap_words.specs.Words.{Word, Evac, Heap}
use Rattle.heap_words.specs.Touch.{touched}
use Rattle.heap_words.specs.Counter.{count_of, is_out_of_room, IsQuiet}
use Rattle.heap_words.specs.Phases.{updating_phase}
use Rattle.evac_room.specs.Spot.{is_counted}
use Rattle.alloc_buffers.specs.declared.spot.TakeSpot.TheVariants as take
use Rattle.load_barrier.specs.declared.copying.CopySpot.TheVariants.{Publish}
use Rattle.load_barrier.specs.declared.spot.ResolveSpot.{ResolveSpot}
use Rattle.load_barrier.specs.declared.spot.ResolveSpot.TheVariants.{LoadHeader, LoadShape, Taking, Copying, Leaving, Stopping, Resolved}
use Rattle.load_barrier.specs.Rows.{touch_at, next_at, is_ended, current_copy}

-- the words, and where the machine stands
pub record Resolving : Type 0 where
  pub memory : Word → ℕ
  pub spot : ResolveSpot

-- the machine makes its next access, or others make steps, after which the words are these
pub data Move : Type 0 where
  own : Move
  others : (after : Word → ℕ) → Move

-- the machine begins to resolve, in these words
abbrev pub resolving_from : (Word → ℕ) → Resolving
resolving_from memory = record { memory = memory; spot = LoadHeader }

-- whether the counter counts the machine
abbrev pub is_copier : ResolveSpot → Bool
is_copier LoadShape = true
is_copier (Taking words spot) = true
is_copier (Copying copy end spot) = true
is_copier (Leaving answer) = true
is_copier (Stopping spot) = is_counted spot
is_copier _ = false

-- a header is that of an object: it is plain, or names a copy
abbrev pub IsHeader : ℕ → Type 0
IsHeader header = (header ≡ plain_header) ⊎ (is_forwarded header ≡ true)

-- the words of the object at an address, by its shape
abbrev pub words_by_shape : (ℕ → ℕ) → ℕ → ℕ
words_by_shape heap address = object_words (heap (address + 1))

-- behind its header the copy has, below an index, the words of the object
abbrev pub AreCopied : (ℕ → ℕ) → ℕ → ℕ → ℕ → Type 0
AreCopied heap address copy index = (offset : ℕ) → 1 ≤ offset → offset < index → heap (copy + offset) ≡ heap (address + offset)

-- a copy is whole: a plain header, and all the words of the object behind it
pub record IsWholeCopy (heap : ℕ → ℕ) (address copy : ℕ) : Type 0 where
  pub header : heap copy ≡ plain_header
  pub words : AreCopied heap address copy (words_by_shape heap address)

-- room for a copy has no word in common with the object, nor has a filler that is stored while room is taken
abbrev pub IsApart : (ℕ → ℕ) → ℕ → ResolveSpot → Type 0
IsApart heap address (Copying copy end spot) = (copy + words_by_shape heap address ≤ address) ⊎ (address + words_by_shape heap address ≤ copy)
IsApart heap address (Taking words (take.Fill buffer place room)) = (next_in buffer < address) ⊎ (address + words_by_shape heap address ≤ next_in buffer)
IsApart heap address _ = ⊤

-- the words of the machine's room stay as they are
abbrev pub RoomStays : (ℕ → ℕ) → (ℕ → ℕ) → ℕ → ResolveSpot → Type 0
RoomStays before after address (Copying copy end spot) = (offset : ℕ) → offset < words_by_shape before address → after (copy + offset) ≡ before (copy + offset)
RoomStays before after address _ = ⊤

-- What other machines may do while one that resolves an address stands at a spot.
pub record LeaveObject (phase address : ℕ) (spot : ResolveSpot) (before after : Word → ℕ) : Type 0 where
  -- The header is that of an object. It stays once it names a copy, once nobody copies any more, and while references are updated.
  pub header : IsHeader (after (Heap address))
  pub forwarded : is_forwarded (before (Heap address)) ≡ true → after (Heap address) ≡ before (Heap address)
  pub quiet : IsQuiet (before Evac) → after (Heap address) ≡ before (Heap address)
  pub updating : phase ≡ updating_phase → after (Heap address) ≡ before (Heap address)
  -- Whoever found no room is not forgotten, nobody copies again then, and a copier stays counted.
  pub out : is_out_of_room (before Evac) ≡ true → is_out_of_room (after Evac) ≡ true
  pub stopped : IsQuiet (before Evac) → IsQuiet (after Evac)
  pub counted : is_copier spot ≡ true → 1 ≤ count_of (after Evac)
  -- While the machine copies, the object's words behind the header stay as they are, and so do those of its room.
  pub words : is_copier spot ≡ true → (k : ℕ) → 1 ≤ k → k < words_by_shape (λ a. before (Heap a)) address → after (Heap (address + k)) ≡ before (Heap (address + k))
  pub room : RoomStays (λ a. before (Heap a)) (λ a. after (Heap a)) address spot

-- the word of the counter: there are at most 12 copiers
pub record IsCounter (word : ℕ) : Type 0 where
  pub is_word : word < 2 ^ 64
  pub few : count_of word ≤ 12

-- the machine may make its next access: it is not at its end, and its room lies apart from the object
pub record CanStep (address : ℕ) (resolving : Resolving) : Type 0 where
  pub going : is_ended resolving.spot ≡ false
  pub counter : IsCounter (resolving.memory Evac)
  pub apart : IsApart (λ a. resolving.memory (Heap a)) address resolving.spot

module _ (config : Config) (seat address phase : ℕ) where
  -- the word that the machine finds
  abbrev pub word_found : Resolving → ℕ
  word_found resolving = resolving.memory (touch_at config seat address resolving.spot).word

  -- what a move makes of it
  abbrev pub after_move : Resolving → Move → Resolving
  after_move resolving own = record { memory = touched resolving.memory (touch_at config seat address resolving.spot); spot = next_at config address phase resolving.spot (word_found resolving) }
  after_move resolving (others after) = record { memory = after; spot = resolving.spot }

  -- what moves make of it, one after the other
  unfoldable pub after_moves : Resolving → List Move → Resolving
  after_moves resolving [] = resolving
  after_moves resolving (move ∷ moves) = after_moves (after_move resolving move) moves

  -- a move may be made: the machine makes a step, and others leave the object
  abbrev pub IsMove : Resolving → Move → Type 0
  IsMove resolving own = CanStep address resolving
  IsMove resolving (others after) = LeaveObject phase address resolving.spot resolving.memory after

  -- each of these moves may be made, one after the other
  unfoldable pub AreMoves : Resolving → List Move → Type 0
  AreMoves resolving [] = ⊤
  AreMoves resolving (move ∷ moves) = IsMove resolving move × AreMoves (after_move resolving move) moves

-- What holds after each list of moves.
pub record ResolvingHolds (address : ℕ) (resolving : Resolving) : Type 0 where
  -- the answer is the object's current copy
  pub answer : (to : ℕ) → resolving.spot ≡ Resolved to → to ≡ current_copy address (resolving.memory (Heap address))
  -- a copy that is about to be published is whole
  pub whole : (copy end : ℕ) → resolving.spot ≡ Copying copy end Publish → IsWholeCopy (λ a. resolving.memory (Heap a)) address copy

-- The resolving of the address of an object, whatever others do that leave the object.
abbrev pub AnswersAreCurrent : Type 0
AnswersAreCurrent = (config : Config) (seat address phase : ℕ) (memory : Word → ℕ) (moves : List Move)
    → IsHeader (memory (Heap address)) → AreMoves config seat address phase (resolving_from memory) moves
    → ResolvingHolds address (after_moves config seat address phase (resolving_from memory) moves)
