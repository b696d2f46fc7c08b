-- Places that are cleared one after the other.
use Rattle.std.proofs.Common.{◌≡◌, ◌≢◌, ℕ, ◌+◌, ◌<◌, zero, suc, List, [], ◌∷◌, ◌++◌, map, refl, sym, ap, ◌∙◌, subst, ⊎_elim, arith}
use Rattle.std.specs.List.{range_with_len}
use Rattle.std.proofs.lemmas.Bool.{cases_eq}
use Rattle.std.proofs.lemmas.List.FromFn.{map-range_with_len_more}
use Rattle.heap_words.specs.declared.config.Config.{Config}
use Rattle.heap_words.specs.Words.{Word, Root}
use Rattle.cycle_words.specs.Evacuation.Begun.{CanClear, CanClearInTurn, cleared_at, cleared_in_turn, root_places}

module _ (config : Config) where
  pub turn_none : (memory : Word → ℕ) → memory ≡ cleared_in_turn config memory []
  unfolding cleared_in_turn
  turn_none memory = refl

  turn_one : (memory : Word → ℕ) (place : Word) → cleared_in_turn config memory (place ∷ []) ≡ cleared_at config memory place
  unfolding cleared_in_turn
  turn_one memory place = refl

  pub turn_both : (places later_places : List Word) (memory : Word → ℕ) → cleared_in_turn config memory (places ++ later_places) ≡ cleared_in_turn config (cleared_in_turn config memory places) later_places
  unfolding cleared_in_turn
  turn_both [] later_places memory = refl
  turn_both (word ∷ rest) later_places memory = turn_both rest later_places (cleared_at config memory word)

  -- the first of some places can be cleared, and so can the others once these are
  pub can_front : (places later_places : List Word) (memory : Word → ℕ) → CanClearInTurn config memory (places ++ later_places) → CanClearInTurn config memory places
  unfolding CanClearInTurn
  can_front [] later_places memory can_clear = tt
  can_front (word ∷ rest) later_places memory can_clear = (can_clear.0, can_front rest later_places (cleared_at config memory word) can_clear.1)

  pub can_back : (places later_places : List Word) (memory : Word → ℕ) → CanClearInTurn config memory (places ++ later_places) → CanClearInTurn config (cleared_in_turn config memory places) later_places
  unfolding CanClearInTurn cleared_in_turn
  can_back [] later_places memory can_clear = can_clear
  can_back (word ∷ rest) later_places memory can_clear = can_back rest later_places (cleared_at config memory word) can_clear.1

  can_one : (memory : Word → ℕ) (place : Word) → CanClearInTurn config memory (place ∷ []) → CanClear config memory (memory place)
  unfolding CanClearInTurn
  can_one memory place can_clear = can_clear.0

  -- a row of places
  module _ (memory : Word → ℕ) (place_at : ℕ → Word) where
    abbrev pub row : ℕ → Word → ℕ
    row index = cleared_in_turn config memory (map place_at (range_with_len 0 index))

    pub row_none : memory ≡ row 0
    row_none = turn_none memory

    row_more : (index : ℕ) → map place_at (range_with_len 0 (index + 1)) ≡ map place_at (range_with_len 0 index) ++ place_at index ∷ []
    row_more index = map-range_with_len_more place_at 0 index index (omega arith)

    pub row_next : (index : ℕ) → cleared_at config (row index) (place_at index) ≡ row (index + 1)
    row_next index = sym (turn_one (row index) (place_at index)) ∙ sym (turn_both (map place_at (range_with_len 0 index)) (place_at index ∷ []) memory) ∙ ap (cleared_in_turn config memory) (sym (row_more index))

    pub row_can : (count index : ℕ) → index < count → CanClearInTurn config memory (map place_at (range_with_len 0 count)) → CanClear config (row index) (row index (place_at index))
    row_can zero index index_below can_clear = absurd (omega (arith, index_below))
    row_can (suc previous) index index_below can_clear =
        let next_number : suc previous ≡ previous + 1 = omega arith in
        let can_parts : CanClearInTurn config memory (map place_at (range_with_len 0 previous) ++ place_at previous ∷ []) = subst (CanClearInTurn config memory) (ap (λ number. map place_at (range_with_len 0 number)) next_number ∙ row_more previous) can_clear in
        ⊎_elim
        (λ (last_one : previous ≡ index).
        let last_can = can_one (row previous) (place_at previous) (can_back (map place_at (range_with_len 0 previous)) (place_at previous ∷ []) memory can_parts) in
        subst (λ number. CanClear config (row number) (row number (place_at number))) last_one last_can)
        (λ (not_last : previous ≢ index). row_can previous index (omega (arith, index_below, not_last)) (can_front (map place_at (range_with_len 0 previous)) (place_at previous ∷ []) memory can_parts))
        (cases_eq previous index)

  -- the rows of all mutators
  module _ (memory : Word → ℕ) where
    pub rows_none : memory ≡ cleared_in_turn config memory (root_places 0)
    rows_none = turn_none memory

    pub rows_next : (mutator : ℕ) → cleared_in_turn config (cleared_in_turn config memory (root_places mutator)) (map (Root mutator) (range_with_len 0 16)) ≡ cleared_in_turn config memory (root_places (mutator + 1))
    rows_next mutator =
        let next_number : suc mutator ≡ mutator + 1 = omega arith in
        sym (turn_both (root_places mutator) (map (Root mutator) (range_with_len 0 16)) memory) ∙ ap (λ mutators. cleared_in_turn config memory (root_places mutators)) next_number

    pub rows_can : (mutators mutator : ℕ) → mutator < mutators → CanClearInTurn config memory (root_places mutators) → CanClearInTurn config (cleared_in_turn config memory (root_places mutator)) (map (Root mutator) (range_with_len 0 16))
    rows_can zero mutator mutator_below can_clear = absurd (omega (arith, mutator_below))
    rows_can (suc previous) mutator mutator_below can_clear = ⊎_elim
        (λ (last_one : previous ≡ mutator).
        subst (λ seat. CanClearInTurn config (cleared_in_turn config memory (root_places seat)) (map (Root seat) (range_with_len 0 16))) last_one
        (can_back (root_places previous) (map (Root previous) (range_with_len 0 16)) memory can_clear))
        (λ (not_last : previous ≢ mutator). rows_can previous mutator (omega (arith, mutator_below, not_last)) (can_front (root_places previous) (map (Root previous) (range_with_len 0 16)) memory can_clear))
        (cases_eq previous mutator)
