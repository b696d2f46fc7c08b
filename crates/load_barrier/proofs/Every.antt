-- The resolving of an address, over every list of moves.
use Rattle.std.proofs.Common.{◌≡◌, ℕ, List, [], ◌∷◌, subst}
use Rattle.heap_words.specs.declared.config.Config.{Config}
use Rattle.heap_words.specs.Words.{Evac, Heap}
use Rattle.load_barrier.specs.declared.spot.ResolveSpot.{ResolveSpot}
use Rattle.load_barrier.specs.Alone.{Resolving, Move, own, others, after_move, after_moves, IsMove, AreMoves, resolving_from, ResolvingHolds, AnswersAreCurrent}
use Rattle.load_barrier.proofs.Knows.{Can, Knows, can_stays}
use Rattle.load_barrier.proofs.Resolving.{each_step}

module _ (config : Config) (seat address phase : ℕ) where
  -- what holds in between
  abbrev CanAt : Resolving → Type 0
  CanAt resolving = Can phase address resolving.memory resolving.spot

  move_keeps : (resolving : Resolving) (move : Move) → IsMove config seat address phase resolving move → CanAt resolving → CanAt (after_move config seat address phase resolving move)
  move_keeps resolving own is_move can_before = each_step config seat address phase resolving.memory resolving.spot is_move.going is_move.counter is_move.apart can_before
  move_keeps resolving (others after) other_move can_before = can_stays phase address resolving.spot resolving.memory after other_move can_before

  moves_keep : (resolving : Resolving) (moves : List Move) → AreMoves config seat address phase resolving moves → CanAt resolving → CanAt (after_moves config seat address phase resolving moves)
  unfolding after_moves AreMoves
  moves_keep resolving [] are_moves can_before = can_before
  moves_keep resolving (move ∷ moves) are_moves can_before = moves_keep (after_move config seat address phase resolving move) moves are_moves.1 (move_keeps resolving move are_moves.0 can_before)

  -- in between what the law says holds
  kept_of : (resolving : Resolving) → CanAt resolving → ResolvingHolds address resolving
  kept_of resolving can_stand = record {
    answer = λ answer spot_is. (known spot_is).0;
    whole = λ copy end spot_is. known spot_is;
  }
    where
      known : {spot : ResolveSpot} → resolving.spot ≡ spot → Knows phase address (λ address. resolving.memory (Heap address)) (resolving.memory Evac) spot
      known spot_is = subst (λ spot. Knows phase address (λ address. resolving.memory (Heap address)) (resolving.memory Evac) spot) spot_is can_stand.knows

pub answers_current : AnswersAreCurrent
answers_current config seat address phase memory moves header_plain are_moves =
    kept_of config seat address phase (after_moves config seat address phase (resolving_from memory) moves)
    (moves_keep config seat address phase (resolving_from memory) moves are_moves (record { header = header_plain; counted = λ copies. absurd (cc (copies)); knows = tt }))
