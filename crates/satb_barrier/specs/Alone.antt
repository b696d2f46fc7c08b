-- The recording of an address by itself: the steps of the mutator that records it, and between them whatever other machines do.
use Rattle.std.specs.Prelude.{ℕ, ◌≡◌, true, false, List, [], ◌∷◌, ◌++◌, ⊤}
use Rattle.heap_words.specs.declared.config.Config.{Config}
use Rattle.heap_words.specs.Words.{Word, Heap, IsWord}
use Rattle.heap_words.specs.Touch.{touched}
use Rattle.satb_barrier.specs.declared.spot.RememberSpot.{RememberSpot}
use Rattle.satb_barrier.specs.declared.spot.RememberSpot.TheVariants.{LoadCount, Recorded}
use Rattle.satb_barrier.specs.Rows.{touch_at, next_at, is_ended, is_ready, IsFit}
use Rattle.satb_barrier.specs.Recorded.{IsRecorded, IsSatbBuffer, LeaveBuffer}

-- the words, and where the mutator stands
pub record Recording : Type 0 where
  pub memory : Word → ℕ
  pub spot : RememberSpot

-- the mutator makes its next access, or others make steps, after which the words are these
pub data Move : Type 0 where
  own : Move
  others : (after : Word → ℕ) → Move

-- the mutator begins to record, in these words
abbrev pub recording_from : (Word → ℕ) → Recording
recording_from memory = record { memory = memory; spot = LoadCount }

-- what was recorded in one is recorded in the other
abbrev pub KeepsRecorded : Config → ℕ → Recording → Recording → Type 0
KeepsRecorded config mutator one other = (address : ℕ) → IsRecorded config one.memory mutator address → IsRecorded config other.memory mutator address

module _ (config : Config) (mutator address : ℕ) where
  -- the word that the mutator finds
  abbrev pub word_found : Recording → ℕ
  word_found recording = recording.memory (touch_at config mutator address recording.spot).word

  -- what a move makes of it
  abbrev pub after_move : Recording → Move → Recording
  after_move recording own = record { memory = touched recording.memory (touch_at config mutator address recording.spot); spot = next_at recording.spot (word_found recording) }
  after_move recording (others after) = record { memory = after; spot = recording.spot }

  -- what moves make of it, one after the other
  unfoldable pub after_moves : Recording → List Move → Recording
  after_moves recording [] = recording
  after_moves recording (move ∷ moves) = after_moves (after_move recording move) moves

  -- a move may be made: the mutator makes a step until the address is recorded, and others leave its buffer
  abbrev pub IsMove : Recording → Move → Type 0
  IsMove recording own = is_ended recording.spot ≡ false
  IsMove recording (others after) = LeaveBuffer mutator recording.memory after

  -- each of these moves may be made, one after the other
  unfoldable pub AreMoves : Recording → List Move → Type 0
  AreMoves recording [] = ⊤
  AreMoves recording (move ∷ moves) = IsMove recording move × AreMoves (after_move recording move) moves

  -- what holds after each list of moves from the words in which it began
  pub record RecordingHolds (recording : Recording) : Type 0 where
    -- the mutator's buffer is one
    pub buffer : IsSatbBuffer config recording.memory mutator
    -- its next access can be made, and the word that it finds is fit
    pub ready : is_ready config recording.spot ≡ true
    pub fits : is_ended recording.spot ≡ false → IsFit config recording.spot (word_found recording)
    -- at the end the address is recorded
    pub recorded : recording.spot ≡ Recorded → IsRecorded config recording.memory mutator address

-- The recording of an address of the heap, from words in which the mutator's buffer is one, whatever others do.
pub record RecordingIsKept : Type 0 where
  -- at its end the address is grey or in the buffer
  pub each : (config : Config) (mutator address : ℕ) (memory : Word → ℕ) (moves : List Move)
      → IsWord config (Heap address) → IsSatbBuffer config memory mutator → AreMoves config mutator address (recording_from memory) moves
      → RecordingHolds config mutator address (after_moves config mutator address (recording_from memory) moves)
  -- and what was recorded at any time stays so
  pub keeps : (config : Config) (mutator address : ℕ) (memory : Word → ℕ) (moves more : List Move)
      → IsWord config (Heap address) → IsSatbBuffer config memory mutator → AreMoves config mutator address (recording_from memory) (moves ++ more)
      → KeepsRecorded config mutator (after_moves config mutator address (recording_from memory) moves)
      (after_moves config mutator address (recording_from memory) (moves ++ more))
