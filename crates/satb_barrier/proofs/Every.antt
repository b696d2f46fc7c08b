-- The recording of an address, over every list of moves.
use Rattle.std.proofs.Common.{ℕ, List, [], ◌∷◌, ◌++◌, refl, subst}
use Rattle.heap_words.specs.declared.config.Config.{Config}
use Rattle.heap_words.specs.Words.{Word, Heap, IsWord}
use Rattle.satb_barrier.specs.declared.spot.RememberSpot.TheVariants.{LoadCount}
use Rattle.satb_barrier.specs.Recorded.{IsSatbBuffer}
use Rattle.satb_barrier.specs.Alone.{Recording, Move, own, others, after_move, after_moves, IsMove, AreMoves, recording_from, RecordingHolds, KeepsRecorded, RecordingIsKept}
use Rattle.satb_barrier.specs.Facts.{RememberFacts, CanRemember}
use Rattle.satb_barrier.proofs.Remembering.{recorded_stays, can_remember_stays, found_is_fit, each_remembers}

module _ (config : Config) (mutator address : ℕ) (heap : IsWord config (Heap address)) where
  -- what holds in between
  abbrev Can : Recording → Type 0
  Can recording = CanRemember config recording.memory mutator address recording.spot

  move_keeps : (recording : Recording) (move : Move) → IsMove config mutator address recording move → Can recording → Can (after_move config mutator address recording move)
  move_keeps recording own going can_remember = (each_remembers config recording.memory mutator address recording.spot going heap can_remember).next
  move_keeps recording (others after) others_leave can_remember = can_remember_stays config mutator recording.memory after others_leave address recording.spot can_remember

  move_recorded : (recording : Recording) (move : Move) → IsMove config mutator address recording move → Can recording → KeepsRecorded config mutator recording (after_move config mutator address recording move)
  move_recorded recording own going can_remember = (each_remembers config recording.memory mutator address recording.spot going heap can_remember).keeps
  move_recorded recording (others after) others_leave can_remember = recorded_stays config mutator recording.memory after others_leave can_remember.buffer.few

  moves_keep : (recording : Recording) (moves : List Move) → AreMoves config mutator address recording moves → Can recording → Can (after_moves config mutator address recording moves)
  unfolding after_moves AreMoves
  moves_keep recording [] are_moves can_remember = can_remember
  moves_keep recording (move ∷ moves) are_moves can_remember = moves_keep (after_move config mutator address recording move) moves are_moves.1 (move_keeps recording move are_moves.0 can_remember)

  moves_recorded : (recording : Recording) (moves : List Move) → AreMoves config mutator address recording moves → Can recording → KeepsRecorded config mutator recording (after_moves config mutator address recording moves)
  unfolding after_moves AreMoves
  moves_recorded recording [] are_moves can_remember recorded_address was_recorded = was_recorded
  moves_recorded recording (move ∷ moves) are_moves can_remember recorded_address was_recorded =
      moves_recorded (after_move config mutator address recording move) moves are_moves.1 (move_keeps recording move are_moves.0 can_remember) recorded_address (move_recorded recording move are_moves.0 can_remember recorded_address was_recorded)

  -- what was recorded after some of the moves is recorded after all of them
  more_recorded : (recording : Recording) (moves later_moves : List Move) → AreMoves config mutator address recording (moves ++ later_moves) → Can recording
      → KeepsRecorded config mutator (after_moves config mutator address recording moves) (after_moves config mutator address recording (moves ++ later_moves))
  unfolding after_moves AreMoves
  more_recorded recording [] later_moves are_moves can_remember = moves_recorded recording later_moves are_moves can_remember
  more_recorded recording (move ∷ moves) later_moves are_moves can_remember = more_recorded (after_move config mutator address recording move) moves later_moves are_moves.1 (move_keeps recording move are_moves.0 can_remember)

  -- in between what the law says holds
  kept_of : (recording : Recording) → Can recording → RecordingHolds config mutator address recording
  kept_of recording can_remember = record {
    buffer = can_remember.buffer;
    ready = can_remember.ready;
    fits = λ going. found_is_fit config recording.memory mutator address recording.spot can_remember;
    recorded = λ spot_recorded. subst (λ spot. RememberFacts config recording.memory mutator address spot) spot_recorded can_remember.facts;
  }

-- it begins so
begins : (config : Config) (mutator address : ℕ) (memory : Word → ℕ) → IsSatbBuffer config memory mutator → CanRemember config memory mutator address LoadCount
begins config mutator address memory buffer = record { buffer = buffer; ready = refl; facts = tt }

pub recording_kept : RecordingIsKept
recording_kept = record {
  each = λ config mutator address memory moves heap buffer are_moves.
      kept_of config mutator address heap (after_moves config mutator address (recording_from memory) moves)
      (moves_keep config mutator address heap (recording_from memory) moves are_moves (begins config mutator address memory buffer));
  keeps = λ config mutator address memory moves later_moves heap buffer are_moves.
      more_recorded config mutator address heap (recording_from memory) moves later_moves are_moves (begins config mutator address memory buffer);
}
