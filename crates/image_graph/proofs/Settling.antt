-- Settling leaves each seat without a buffer, or with one that is the last of its region.
use Rattle.std.proofs.Common.{◌≡◌, ◌≢◌, ℕ, ◌<◌, ◌⊎◌, zero, suc, Bool, true, false, inl, inr, ⊎_elim, refl, sym, ap, ◌∙◌, subst, arith}
use Rattle.std.specs.Prelude.{◌==◌, ◌||◌, if◌then◌else◌}
use Rattle.std.proofs.lemmas.Bool.{cases_eq, or_cases, eqb-true}
use Rattle.heap_words.specs.declared.config.Config.{Config}
use Rattle.heap_words.specs.Ranges.{seat_count}
use Rattle.heap_words.specs.Words.{Word, Top, Current, write}
use Rattle.image_graph.specs.SeatBuffers.{is_last, filled_over}
use Rattle.image_graph.specs.Settled.{settled_at, settled_below}
use Rattle.image_graph.specs.BufferLaws.{SettlingLeaves}
use Rattle.image_graph.proofs.OneTurn.{if_at, own_current, other_current, filled_top, filled_current, last_same}

-- a seat has no buffer, or one that is the last of its region
abbrev IsLeft : Config → (Word → ℕ) → ℕ → Type 0
IsLeft config memory seat = (memory (Current seat) ≡ 0) ⊎ (is_last config memory (memory (Current seat)) ≡ true)

module _ (config : Config) (memory : Word → ℕ) (seat : ℕ) where
  -- the words without the buffer
  abbrev gone : Word → ℕ
  gone = write (filled_over memory (memory (Current seat))) (Current seat) 0

  -- whether it stays
  abbrev stays : Bool
  stays = (memory (Current seat) == 0) || is_last config memory (memory (Current seat))

  -- no turn changes a top
  pub turn_top : (region : ℕ) → settled_at config memory seat (Top region) ≡ memory (Top region)
  turn_top region = if_at stays memory gone (Top region) (memory (Top region)) refl (filled_top memory (memory (Current seat)) region)

  -- or another's buffer
  pub turn_other : (other_seat : ℕ) → seat ≢ other_seat → settled_at config memory seat (Current other_seat) ≡ memory (Current other_seat)
  turn_other other_seat seats_differ = if_at stays memory gone (Current other_seat) (memory (Current other_seat)) refl (other_current (filled_over memory (memory (Current seat))) seat 0 other_seat seats_differ ∙ filled_current memory (memory (Current seat)) other_seat)

  -- what it leaves of the seat's
  by_case : (holds : Bool) → holds ≡ stays → ((if holds then memory else gone) (Current seat) ≡ 0) ⊎ (is_last config memory ((if holds then memory else gone) (Current seat)) ≡ true)
  by_case true holds_is = ⊎_elim (λ no_buffer. inl (eqb-true (memory (Current seat)) 0 no_buffer)) (λ buffer_last. inr buffer_last) (or_cases (memory (Current seat) == 0) (is_last config memory (memory (Current seat))) (sym holds_is))
  by_case false holds_is = inl (own_current (filled_over memory (memory (Current seat))) seat 0)

  pub turn_own : IsLeft config (settled_at config memory seat) seat
  turn_own = ⊎_elim (λ no_buffer. inl no_buffer) (λ buffer_last. inr (last_same config memory (settled_at config memory seat) (settled_at config memory seat (Current seat)) turn_top ∙ buffer_last)) (by_case stays refl)

module _ (config : Config) (memory : Word → ℕ) where
  -- one turn more
  turn_is : (seat : ℕ) → settled_below config memory (suc seat) ≡ settled_at config (settled_below config memory seat) seat
  unfolding settled_below
  turn_is seat = refl

  -- tops stay
  pub settled_top : (turns region : ℕ) → settled_below config memory turns (Top region) ≡ memory (Top region)
  unfolding settled_below
  settled_top zero region = refl
  settled_top (suc turns) region = turn_top config (settled_below config memory turns) turns region ∙ settled_top turns region

  -- and who had a turn is left so
  pub settled_left : (turns seat : ℕ) → seat < turns → IsLeft config (settled_below config memory turns) seat
  settled_left zero seat seat_below = absurd (omega (arith, seat_below))
  settled_left (suc other_seat) seat seat_below = subst (λ k. IsLeft config k seat) (sym (turn_is other_seat)) (⊎_elim
      (λ (same_seat : seat ≡ other_seat). subst (λ k. IsLeft config (settled_at config (settled_below config memory other_seat) other_seat) k) (sym same_seat) (turn_own config (settled_below config memory other_seat) other_seat))
      (λ (seat_differs : seat ≢ other_seat).
      let word = turn_other config (settled_below config memory other_seat) other_seat seat (λ same_seat. seat_differs (sym same_seat)) in
      ⊎_elim
      (λ no_buffer. inl (word ∙ no_buffer))
      (λ buffer_last. inr (ap (λ k. is_last config (settled_at config (settled_below config memory other_seat) other_seat) k) word ∙ last_same config (settled_below config memory other_seat) (settled_at config (settled_below config memory other_seat) other_seat) (settled_below config memory other_seat (Current seat)) (turn_top config (settled_below config memory other_seat) other_seat) ∙ buffer_last))
      (settled_left other_seat seat (omega (arith, seat_below, seat_differs))))
      (cases_eq seat other_seat))

pub settling_leaves : (config : Config) (memory : Word → ℕ) → SettlingLeaves config memory
settling_leaves config memory = record {
  last = λ seat seat_below. settled_left config memory (seat_count config.mutators config.helpers) seat seat_below;
  tops = λ region. settled_top config memory (seat_count config.mutators config.helpers) region;
}
