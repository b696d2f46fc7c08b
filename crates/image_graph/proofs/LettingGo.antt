-- Letting go leaves no seat a buffer.
use Rattle.std.proofs.Common.{◌≡◌, ◌≢◌, ℕ, ◌<◌, zero, suc, Bool, true, false, ⊎_elim, refl, sym, ap, ◌∙◌, subst, arith}
use Rattle.std.specs.Prelude.{◌==◌, if◌then◌else◌}
use Rattle.std.proofs.lemmas.Bool.{cases_eq, cond-true, eqb-true, eq-eqb}
use Rattle.heap_words.specs.declared.config.Config.{Config}
use Rattle.heap_words.specs.Ranges.{seat_count}
use Rattle.heap_words.specs.Words.{Word, Current, write}
use Rattle.image_graph.specs.SeatBuffers.{is_last, filled_over}
use Rattle.image_graph.specs.LetGo.{given_back, let_go_at, let_go_below}
use Rattle.image_graph.specs.BufferLaws.{LettingGoLeaves}
use Rattle.image_graph.proofs.OneTurn.{if_at, own_current, other_current, filled_current, back_current}

module _ (config : Config) (memory : Word → ℕ) (seat : ℕ) where
  -- the words without its free words
  abbrev freed : Word → ℕ
  freed = if is_last config memory (memory (Current seat)) then given_back config memory (memory (Current seat)) else filled_over memory (memory (Current seat))

  abbrev gone : Word → ℕ
  gone = write freed (Current seat) 0

  freed_current : (other_seat : ℕ) → freed (Current other_seat) ≡ memory (Current other_seat)
  freed_current other_seat = if_at (is_last config memory (memory (Current seat))) (given_back config memory (memory (Current seat))) (filled_over memory (memory (Current seat))) (Current other_seat) (memory (Current other_seat))
      (back_current config memory (memory (Current seat)) other_seat) (filled_current memory (memory (Current seat)) other_seat)

  -- another's buffer stays
  pub turn_other : (other_seat : ℕ) → seat ≢ other_seat → let_go_at config memory seat (Current other_seat) ≡ memory (Current other_seat)
  turn_other other_seat differs = if_at (memory (Current seat) == 0) memory gone (Current other_seat) (memory (Current other_seat)) refl (other_current freed seat 0 other_seat differs ∙ freed_current other_seat)

  by_case : (holds : Bool) → holds ≡ (memory (Current seat) == 0) → (if holds then memory else gone) (Current seat) ≡ 0
  by_case true tested_word = eqb-true (memory (Current seat)) 0 (sym tested_word)
  by_case false tested_word = own_current freed seat 0

  -- the seat has none
  pub turn_own : let_go_at config memory seat (Current seat) ≡ 0
  turn_own = by_case (memory (Current seat) == 0) refl

module _ (config : Config) (memory : Word → ℕ) where
  -- nor has who had a turn before
  pub none_left : (turns seat : ℕ) → seat < turns → let_go_below config memory turns (Current seat) ≡ 0
  unfolding let_go_below
  none_left zero seat seat_below = absurd (omega (arith, seat_below))
  none_left (suc last_seat) seat seat_below = ⊎_elim
      (λ (same_seat : seat ≡ last_seat). subst (λ seat. let_go_at config (let_go_below config memory last_seat) last_seat (Current seat) ≡ 0) (sym same_seat) (turn_own config (let_go_below config memory last_seat) last_seat))
      (λ (seats_differ : seat ≢ last_seat). turn_other config (let_go_below config memory last_seat) last_seat seat (λ same_seat. seats_differ (sym same_seat)) ∙ none_left last_seat seat (omega (arith, seat_below, seats_differ)))
      (cases_eq seat last_seat)

-- Where nobody has a buffer there is none to let go.
pub none_to_let_go : (config : Config) (memory : Word → ℕ) (turns : ℕ) → ((seat : ℕ) → seat < turns → memory (Current seat) ≡ 0) → let_go_below config memory turns ≡ memory
unfolding let_go_below
none_to_let_go config memory zero no_buffers = refl
none_to_let_go config memory (suc turns) no_buffers =
    let before : let_go_below config memory turns ≡ memory = none_to_let_go config memory turns (λ seat seat_below. no_buffers seat (omega (arith, seat_below))) in
    ap (λ (memory : Word → ℕ). let_go_at config memory turns) before
    ∙ cond-true (memory (Current turns) == 0) memory (write (if is_last config memory (memory (Current turns)) then given_back config memory (memory (Current turns)) else filled_over memory (memory (Current turns))) (Current turns) 0)
    (eq-eqb (memory (Current turns)) 0 (no_buffers turns (omega arith)))

pub letting_go_leaves : (config : Config) (memory : Word → ℕ) → LettingGoLeaves config memory
letting_go_leaves config memory = λ seat seat_below. none_left config memory (seat_count config.mutators config.helpers) seat seat_below
