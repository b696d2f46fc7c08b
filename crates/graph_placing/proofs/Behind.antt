-- Things that are placed one behind the other, each within one region, where nothing is shut: their places rise, and they stand apart.
use Rattle.std.proofs.Common.{◌≡◌, ℕ, ◌+◌, ◌*◌, ◌/◌, ◌%◌, ◌<◌, ◌≤◌, ◌⊎◌, inl, inr, true, false, zero, suc, nat_le, ⊎_elim, sym, ap, ◌∙◌, subst, arith}
use Rattle.std.proofs.lemmas.Bool.{cond-true, cond-false, cases_eq, cases_Bool}
use Rattle.regions.specs.Places.{none_shut, next_open, first_row, open_row, place_around, place_behind, end_before, new_place}
use Rattle.regions.proofs.Around.{open_next, around_cases, around_not_below, around_within}
use Rattle.regions.proofs.Placed.{end_next}

-- the first row with room is the open one
first_is_open : (row : ℕ) → next_open none_shut 64 row ≡ row
first_is_open row = open_next none_shut 63 row

-- where the words fit it is that of the end, and else the next one
row_where_it_fits : (region_words end words : ℕ) → nat_le (end % region_words + words) region_words ≡ true → open_row region_words none_shut end words ≡ end / region_words
row_where_it_fits region_words end words fits = first_is_open (first_row region_words end words) ∙ cond-true (nat_le (end % region_words + words) region_words) (end / region_words) (end / region_words + 1) fits

row_where_it_is_full : (region_words end words : ℕ) → nat_le (end % region_words + words) region_words ≡ false → open_row region_words none_shut end words ≡ end / region_words + 1
row_where_it_is_full region_words end words too_full = first_is_open (first_row region_words end words) ∙ cond-false (nat_le (end % region_words + words) region_words) (end / region_words) (end / region_words + 1) too_full

-- so words are placed around nothing as they are placed behind the end
pub around_nothing : (region_words end words : ℕ) → 0 < words → place_behind region_words end words ≡ place_around region_words none_shut end words
around_nothing region_words end words positive = ⊎_elim
    (λ (fits : nat_le (end % region_words + words) region_words ≡ true).
    around_cases region_words none_shut end words positive (λ place. place_behind region_words end words ≡ place)
    (λ _. cond-true (nat_le (end % region_words + words) region_words) end ((end / region_words + 1) * region_words) fits)
    (λ other_row. absurd (other_row (row_where_it_fits region_words end words fits))))
    (λ (too_full : nat_le (end % region_words + words) region_words ≡ false).
    around_cases region_words none_shut end words positive (λ place. place_behind region_words end words ≡ place)
    (λ same_row. absurd (omega (arith, same_row, row_where_it_is_full region_words end words too_full)))
    (λ _. cond-false (nat_le (end % region_words + words) region_words) end ((end / region_words + 1) * region_words) too_full ∙ ap (λ row. row * region_words) (sym (row_where_it_is_full region_words end words too_full))))
    (cases_Bool (nat_le (end % region_words + words) region_words))

module _ (region_words : ℕ) (words : ℕ → ℕ) (some_region_words : 0 < region_words) (some_words : (any_thing : ℕ) → 0 < words any_thing) (short : (any_thing : ℕ) → words any_thing ≤ region_words) where
  -- the end behind a thing is the end of the next ones
  pub end_behind_it : (thing : ℕ) → end_before region_words none_shut words (suc thing) ≡ new_place region_words none_shut words thing + words thing
  end_behind_it thing = end_next region_words none_shut words thing

  -- a place is not below the end before it
  pub from_end : (thing : ℕ) → end_before region_words none_shut words thing ≤ new_place region_words none_shut words thing
  from_end thing = around_not_below region_words none_shut (end_before region_words none_shut words thing) (words thing) some_region_words

  pub ends_rise : (earlier_thing thing : ℕ) → earlier_thing ≤ thing → end_before region_words none_shut words earlier_thing ≤ end_before region_words none_shut words thing
  ends_rise earlier_thing zero not_later = let same_thing : earlier_thing ≡ 0 = omega (arith, not_later) in subst (λ later_thing. end_before region_words none_shut words earlier_thing ≤ end_before region_words none_shut words later_thing) same_thing (omega arith)
  ends_rise earlier_thing (suc thing) not_later = ⊎_elim
      (λ (same_thing : earlier_thing ≡ suc thing). subst (λ later_thing. end_before region_words none_shut words earlier_thing ≤ end_before region_words none_shut words later_thing) same_thing (omega arith))
      (λ (differs : earlier_thing ≡ suc thing → ⊥). omega (arith, ends_rise earlier_thing thing (omega (arith, not_later, differs)), from_end thing, end_behind_it thing))
      (cases_eq earlier_thing (suc thing))

  pub from_first : (thing : ℕ) → region_words ≤ end_before region_words none_shut words thing
  unfolding end_before
  from_first zero = omega arith
  from_first (suc thing) = omega (arith, from_first thing, from_end thing, end_behind_it thing)

  -- each stands within one region
  pub within_region : (thing : ℕ) → new_place region_words none_shut words thing % region_words + words thing ≤ region_words
  within_region thing = around_within region_words none_shut (end_before region_words none_shut words thing) (words thing) some_region_words (some_words thing) (short thing)

  -- one that comes later stands behind
  pub stand_apart : (earlier_thing thing : ℕ) → earlier_thing < thing → new_place region_words none_shut words earlier_thing + words earlier_thing ≤ new_place region_words none_shut words thing
  stand_apart earlier_thing thing earlier = omega (arith, ends_rise (suc earlier_thing) thing (omega (arith, earlier)), end_behind_it earlier_thing, from_end thing)

  -- a thing stands at the end before it, or at the base of the next region
  pub at_end_or_base : (thing : ℕ) → (new_place region_words none_shut words thing ≡ end_before region_words none_shut words thing) ⊎ (new_place region_words none_shut words thing ≡ (end_before region_words none_shut words thing / region_words + 1) * region_words)
  at_end_or_base thing =
      let end = end_before region_words none_shut words thing in
      let place = around_nothing region_words end (words thing) (some_words thing) in
      ⊎_elim
      (λ (fits : nat_le (end % region_words + words thing) region_words ≡ true). inl (sym place ∙ cond-true (nat_le (end % region_words + words thing) region_words) end ((end / region_words + 1) * region_words) fits))
      (λ (too_full : nat_le (end % region_words + words thing) region_words ≡ false). inr (sym place ∙ cond-false (nat_le (end % region_words + words thing) region_words) end ((end / region_words + 1) * region_words) too_full))
      (cases_Bool (nat_le (end % region_words + words thing) region_words))
