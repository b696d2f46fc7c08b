-- What is found in turns, each of which takes the next address of a list and adds its fields.
use Rattle.std.proofs.Common.{◌≡◌, ℕ, ◌+◌, ◌-◌, ◌≤◌, zero, suc, List, [], ◌∷◌, ◌++◌, length, slice_get, Some, None, refl, sym, ap, ◌∙◌, arith}
use Rattle.heap_world.specs.Walk.{with_addresses}
use Rattle.heap_world.proofs.TakenDown.{with_addresses-append}
use Rattle.image_graph.specs.Held.{with_fields, found_in}

-- one list after another
pub noted_both : (order xs ys : List ℕ) → with_addresses (with_addresses order xs) ys ≡ with_addresses order (xs ++ ys)
noted_both order xs ys = sym (with_addresses-append order xs ys)

module _ (fields : ℕ → List ℕ) (roots : List ℕ) where
  abbrev found : ℕ → List ℕ
  found = found_in fields roots

  pub no_turn : with_addresses [] roots ≡ found 0
  unfolding found_in
  no_turn = refl

  turn : (index : ℕ) → found (suc index) ≡ with_fields fields (found index) (slice_get (found index) index)
  unfolding found_in
  turn index = refl

  pub next_turn : (index address : ℕ) → slice_get (found index) index ≡ Some address → with_addresses (found index) (fields address) ≡ found (index + 1)
  next_turn index address address_found =
      let next_index : suc index ≡ index + 1 = omega arith in
      sym (turn index ∙ ap (with_fields fields (found index)) address_found) ∙ ap found next_index

  -- where no turn is left, further turns find nothing
  stays : (turns more_turns : ℕ) → length (found turns) ≤ turns → found (more_turns + turns) ≡ found turns
  stays turns zero short = let same_turns : zero + turns ≡ turns = omega arith in ap found same_turns
  stays turns (suc more_turns) short =
      let next_count : suc more_turns + turns ≡ suc (more_turns + turns) = omega arith in
      let before : found (more_turns + turns) ≡ found turns = stays turns more_turns short in
      let no_turn : slice_get (found (more_turns + turns)) (more_turns + turns) ≡ None = ap (λ xs. slice_get xs (more_turns + turns)) before ∙ get_none (found turns) (more_turns + turns) (omega (arith, short)) in
      ap found next_count ∙ turn (more_turns + turns) ∙ ap (with_fields fields (found (more_turns + turns))) no_turn ∙ before
    where
      get_none : (xs : List ℕ) (index : ℕ) → length xs ≤ index → slice_get xs index ≡ None
      get_none [] index index_past = refl
      get_none (x ∷ xs) zero index_past = absurd (omega (arith, index_past))
      get_none (x ∷ xs) (suc index) index_past = get_none xs index (omega (arith, index_past))

  pub last_turn : (turns most_turns : ℕ) → length (found turns) ≤ turns → turns ≤ most_turns → found turns ≡ found most_turns
  last_turn turns most_turns short at_most =
      let all_turns : (most_turns - turns) + turns ≡ most_turns = omega (arith, at_most) in
      sym (stays turns (most_turns - turns) short) ∙ ap found all_turns
