-- The turns of seats by which buffers are settled or let go, and by which an edge is found.
use Rattle.std.proofs.Common.{◌≡◌, ◌≢◌, ℕ, ◌+◌, ◌≤◌, zero, suc, true, false, List, refl, sym, ap, ◌∙◌, arith}
use Rattle.std.specs.Prelude.{◌-◌, ◌==◌, ◌&&◌, ◌||◌, nat_lt, if◌then◌else◌}
use Rattle.std.proofs.lemmas.Bool.{cond-true, cond-false, ne_eqb, eq-eqb}
use Rattle.std.proofs.lemmas.Bool.Decides.{nat_tests}
use Rattle.heap_words.specs.declared.config.Config.{Config}
use Rattle.heap_words.specs.Words.{Word, Top, Current, view, write}
use Rattle.heap_words.proofs.Stores.{view_none}
use Rattle.heap_words.specs.Encoding.{next_in}
use Rattle.regions.specs.Place.{base_of}
use Rattle.image_graph.specs.SeatBuffers.{is_last, filled_over}
use Rattle.image_graph.specs.Settled.{settled_at, settled_below}
use Rattle.image_graph.specs.LetGo.{given_back, let_go_at, let_go_below}
use Rattle.image_graph.specs.Edge.{is_last_in, edge_below}
use Rattle.image_graph.specs.Buffers.{HasNoMoreSeats}
use Rattle.image_graph.proofs.Settling as settling
use Rattle.image_graph.proofs.LettingGo as letting

-- a table has no more seats than the heap
pub no_more_seats : (config : Config) (words : List ℕ) → HasNoMoreSeats config (view config words)
no_more_seats config words seat seat_past = view_none config words (Current seat) (grind (arith, nat_tests))

module _ (config : Config) (memory : Word → ℕ) where
  -- What a turn makes: nothing, where the seat has no buffer, or settling finds that it ends at the top; and else the word is 0.
  pub settled_none : (seat : ℕ) → memory (Current seat) ≡ 0 → memory ≡ settled_at config memory seat
  settled_none seat no_buffer =
      sym (cond-true ((memory (Current seat) == 0) || is_last config memory (memory (Current seat))) memory (write (filled_over memory (memory (Current seat))) (Current seat) 0)
      (ap (λ is_null. is_null || is_last config memory (memory (Current seat))) (eq-eqb (memory (Current seat)) 0 no_buffer)))

  pub settled_stays : (seat : ℕ) → memory (Current seat) ≢ 0 → is_last config memory (memory (Current seat)) ≡ true → memory ≡ settled_at config memory seat
  settled_stays seat positive buffer_last =
      sym (cond-true ((memory (Current seat) == 0) || is_last config memory (memory (Current seat))) memory (write (filled_over memory (memory (Current seat))) (Current seat) 0)
      (ap (λ is_null. is_null || is_last config memory (memory (Current seat))) (ne_eqb (memory (Current seat)) 0 positive) ∙ buffer_last))

  pub settled_gone : (seat : ℕ) → memory (Current seat) ≢ 0 → is_last config memory (memory (Current seat)) ≡ false
      → write (filled_over memory (memory (Current seat))) (Current seat) 0 ≡ settled_at config memory seat
  settled_gone seat positive inner =
      sym (cond-false ((memory (Current seat) == 0) || is_last config memory (memory (Current seat))) memory (write (filled_over memory (memory (Current seat))) (Current seat) 0)
      (ap (λ is_null. is_null || is_last config memory (memory (Current seat))) (ne_eqb (memory (Current seat)) 0 positive) ∙ inner))

  abbrev without : ℕ → Word → ℕ
  without seat = write (if is_last config memory (memory (Current seat)) then given_back config memory (memory (Current seat)) else filled_over memory (memory (Current seat))) (Current seat) 0

  pub let_go_none : (seat : ℕ) → memory (Current seat) ≡ 0 → memory ≡ let_go_at config memory seat
  let_go_none seat no_buffer = sym (cond-true (memory (Current seat) == 0) memory (without seat) (eq-eqb (memory (Current seat)) 0 no_buffer))

  pub let_go_back : (seat : ℕ) → memory (Current seat) ≢ 0 → is_last config memory (memory (Current seat)) ≡ true
      → write (given_back config memory (memory (Current seat))) (Current seat) 0 ≡ let_go_at config memory seat
  let_go_back seat positive buffer_last =
      sym (ap (λ (memory : Word → ℕ). write memory (Current seat) 0) (cond-true (is_last config memory (memory (Current seat))) (given_back config memory (memory (Current seat))) (filled_over memory (memory (Current seat))) buffer_last))
      ∙ sym (cond-false (memory (Current seat) == 0) memory (without seat) (ne_eqb (memory (Current seat)) 0 positive))

  pub let_go_filled : (seat : ℕ) → memory (Current seat) ≢ 0 → is_last config memory (memory (Current seat)) ≡ false
      → write (filled_over memory (memory (Current seat))) (Current seat) 0 ≡ let_go_at config memory seat
  let_go_filled seat positive inner =
      sym (ap (λ (memory : Word → ℕ). write memory (Current seat) 0) (cond-false (is_last config memory (memory (Current seat))) (given_back config memory (memory (Current seat))) (filled_over memory (memory (Current seat))) inner))
      ∙ sym (cond-false (memory (Current seat) == 0) memory (without seat) (ne_eqb (memory (Current seat)) 0 positive))

  -- All turns: none yet, and one more.
  pub settled_first : memory ≡ settled_below config memory 0
  unfolding settled_below
  settled_first = refl

  pub settled_next : (seat : ℕ) → settled_at config (settled_below config memory seat) seat ≡ settled_below config memory (seat + 1)
  unfolding settled_below
  settled_next seat = let next_seat : suc seat ≡ seat + 1 = omega arith in ap (settled_below config memory) next_seat

  pub let_go_first : memory ≡ let_go_below config memory 0
  unfolding let_go_below
  let_go_first = refl

  pub let_go_next : (seat : ℕ) → let_go_at config (let_go_below config memory seat) seat ≡ let_go_below config memory (seat + 1)
  unfolding let_go_below
  let_go_next seat = let next_seat : suc seat ≡ seat + 1 = omega arith in ap (let_go_below config memory) next_seat

  -- who had no turn yet has the buffer of before
  pub settled_later : (turns seat : ℕ) → turns ≤ seat → settled_below config memory turns (Current seat) ≡ memory (Current seat)
  unfolding settled_below
  settled_later zero seat later = refl
  settled_later (suc turns) seat later =
      settling.turn_other config (settled_below config memory turns) turns seat (λ same_seat. omega (arith, same_seat, later)) ∙ settled_later turns seat (omega (arith, later))

  pub let_go_later : (turns seat : ℕ) → turns ≤ seat → let_go_below config memory turns (Current seat) ≡ memory (Current seat)
  unfolding let_go_below
  let_go_later zero seat later = refl
  let_go_later (suc turns) seat later =
      letting.turn_other config (let_go_below config memory turns) turns seat (λ same_seat. omega (arith, same_seat, later)) ∙ let_go_later turns seat (omega (arith, later))

  -- the edge that seats leave
  pub edge_first : (region : ℕ) → memory (Top region) ≡ edge_below config memory region 0
  unfolding edge_below
  edge_first region = refl

  pub edge_next : (region seat : ℕ)
      → (if is_last_in config memory region seat && nat_lt (next_in (memory (Current seat)) - base_of config region) (edge_below config memory region seat) then next_in (memory (Current seat)) - base_of config region else edge_below config memory region seat)
      ≡ edge_below config memory region (seat + 1)
  unfolding edge_below
  edge_next region seat = let next_seat : suc seat ≡ seat + 1 = omega arith in ap (edge_below config memory region) next_seat
