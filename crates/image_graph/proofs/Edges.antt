-- Edges lie below tops and below the free words of buffers that end there.
use Rattle.std.proofs.Common.{◌≡◌, ◌≢◌, ℕ, ◌-◌, ◌<◌, ◌≤◌, zero, suc, Bool, true, false, ⊎_elim, refl, sym, ap, ◌∙◌, subst, arith}
use Rattle.std.specs.Prelude.{◌+◌, ◌==◌, ◌&&◌, not, nat_lt, if◌then◌else◌}
use Rattle.std.proofs.lemmas.Bool.{cases_eq, ltb-true, ltb-false}
use Rattle.heap_words.specs.declared.config.Config.{Config}
use Rattle.heap_words.specs.Ranges.{seat_count}
use Rattle.heap_words.specs.Words.{Word, Top, Current}
use Rattle.heap_words.specs.Encoding.{next_in, end_in}
use Rattle.regions.specs.Place.{base_of}
use Rattle.image_graph.specs.Edge.{is_last_in, edge_below, edge}
use Rattle.image_graph.specs.SeatBuffers.{buffer_region}
use Rattle.image_graph.specs.BufferLaws.{EdgesLie}

module _ (config : Config) (memory : Word → ℕ) (region : ℕ) where
  -- where a seat's free words begin, from the base
  abbrev free_at : ℕ → ℕ
  free_at seat = next_in (memory (Current seat)) - base_of config region

  -- the lesser is not above the other, and not above the one where that counts
  lesser : (counts : Bool) (free least : ℕ) → ((if counts && nat_lt free least then free else least) ≤ least) × (counts ≡ true → (if counts && nat_lt free least then free else least) ≤ free)
  lesser false free least = (omega arith, λ wrong. cc)
  lesser true free least = by_order (nat_lt free least) refl
    where
      by_order : (holds : Bool) → holds ≡ nat_lt free least → ((if holds then free else least) ≤ least) × (true ≡ true → (if holds then free else least) ≤ free)
      by_order true holds_as = (let free_below = ltb-true free least (sym holds_as) in omega (arith, free_below), λ counted. omega arith)
      by_order false holds_as = (omega arith, λ counted. ltb-false free least (sym holds_as))

  below_top : (seats : ℕ) → edge_below config memory region seats ≤ memory (Top region)
  unfolding edge_below
  below_top zero = omega arith
  below_top (suc seats) = (let not_higher = (lesser (is_last_in config memory region seats) (free_at seats) (edge_below config memory region seats)).0 in let rest = below_top seats in omega (arith, not_higher, rest))

  below_free : (seats seat : ℕ) → seat < seats → is_last_in config memory region seat ≡ true → edge_below config memory region seats ≤ free_at seat
  unfolding edge_below
  below_free zero seat seat_below last_there = absurd (omega (arith, seat_below))
  below_free (suc last_seat) seat seat_below last_there = ⊎_elim
      (λ (same_seat : seat ≡ last_seat). subst (λ any_seat. (if is_last_in config memory region last_seat && nat_lt (free_at last_seat) (edge_below config memory region last_seat) then free_at last_seat else edge_below config memory region last_seat) ≤ free_at any_seat) (sym same_seat)
      ((lesser (is_last_in config memory region last_seat) (free_at last_seat) (edge_below config memory region last_seat)).1 (subst (λ seat. is_last_in config memory region seat ≡ true) same_seat last_there)))
      (λ (earlier_seat : seat ≢ last_seat). (let not_higher = (lesser (is_last_in config memory region last_seat) (free_at last_seat) (edge_below config memory region last_seat)).0 in let rest = below_free last_seat seat (omega (arith, seat_below, earlier_seat)) last_there in omega (arith, not_higher, rest)))
      (cases_eq seat last_seat)

-- Edges are told by tops and buffers.
module _ (config : Config) (memory other_memory : Word → ℕ) (region : ℕ) (tops : (any_region : ℕ) → other_memory (Top any_region) ≡ memory (Top any_region)) (buffers : (seat : ℕ) → other_memory (Current seat) ≡ memory (Current seat)) where
  abbrev turn : (word top least : ℕ) → ℕ
  turn word top least =
      if (not (word == 0) && (buffer_region config word == region) && (end_in word == base_of config (buffer_region config word) + top)) && nat_lt (next_in word - base_of config region) least
      then next_in word - base_of config region else least

  pub edges_same : (seat : ℕ) → edge_below config other_memory region seat ≡ edge_below config memory region seat
  unfolding edge_below
  edges_same zero = tops region
  edges_same (suc seat) =
      ap (λ word. turn word (other_memory (Top (buffer_region config word))) (edge_below config other_memory region seat)) (buffers seat)
      ∙ ap (λ top. turn (memory (Current seat)) top (edge_below config other_memory region seat)) (tops (buffer_region config (memory (Current seat))))
      ∙ ap (turn (memory (Current seat)) (memory (Top (buffer_region config (memory (Current seat)))))) (edges_same seat)

pub edges_lie : (config : Config) (memory : Word → ℕ) (region : ℕ) → EdgesLie config memory region
edges_lie config memory region = record {
  below_top = below_top config memory region (seat_count config.mutators config.helpers);
  below_free = λ seat seat_below last_there. below_free config memory region (seat_count config.mutators config.helpers) seat seat_below last_there;
}

-- where nothing is in use no edge is but 0
pub edge_zero : (config : Config) (memory : Word → ℕ) (region : ℕ) → memory (Top region) ≡ 0 → edge config memory region ≡ 0
edge_zero config memory region no_words = (let low = (edges_lie config memory region).below_top in omega (arith, low, no_words))
