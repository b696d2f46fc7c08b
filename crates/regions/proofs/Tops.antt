-- The tops after packing: each object stands at the top that its region has by then, objects follow one another from the
-- base on, and the tops are together the words of the kept objects.
use Rattle.std.proofs.Common.{◌≡◌, ◌≢◌, ℕ, ◌+◌, ◌-◌, ◌*◌, ◌/◌, ◌%◌, ◌<◌, ◌≤◌, ◌==◌, ◌⊎◌, inl, inr, Bool, true, false, zero, suc, ⊎_elim, refl, sym, ap, ◌∙◌, subst, arith}
use Rattle.std.proofs.lemmas.Bool.{cond_both, cond-true, cond-false, cases_lt, cases_eq, eq-eqb, ne_eqb, true≢false}
use Rattle.std.proofs.lemmas.Nat.{div-add-mod', mul-le, mod_below, div-mul-add}
use Rattle.regions.specs.Places.{open_row, place_around, open_kept, end_before, new_place, LieApart}
use Rattle.regions.specs.Tops.{sum_below, words_in, top_before}
use Rattle.regions.specs.SlideLaws.{TopsAreFilled}
use Rattle.regions.proofs.Around.{row_from, around_cases}
use Rattle.regions.proofs.Placed.{end_same, end_behind, is_open, open_or_none, new_open, end_from_first, moves_down, place_from_end, stays_apart, stays_above, stays_within, same_kind}
use Rattle.regions.proofs.Sums.{sum_next, sum_none, sum_same, sum_both, sum_of_none, sum_of_one}

-- two rows are one, or one ends before the other begins
pub rows_apart : (words row other_row : ℕ) → (row ≡ other_row) ⊎ ((row * words + words ≤ other_row * words) ⊎ (other_row * words + words ≤ row * words))
rows_apart words row other_row = ⊎_elim
    (λ (lower_row : row < other_row). let rows_far = mul-le (row + 1) words other_row words (omega (arith, lower_row)) (omega arith) in inr (inl (omega (arith, rows_far))))
    (λ (not_below : other_row ≤ row). ⊎_elim
    (λ (lower_row : other_row < row). let rows_far = mul-le (other_row + 1) words row words (omega (arith, lower_row)) (omega arith) in inr (inr (omega (arith, rows_far))))
    (λ (not_above : row ≤ other_row). inl (omega (arith, not_below, not_above)))
    (cases_lt other_row row))
    (cases_lt row other_row)

-- what an object adds to the top of a region
pub added_here : (region_words : ℕ) (shut : ℕ → Bool) (kept : ℕ → ℕ) (region address : ℕ) → new_place region_words shut kept address / region_words ≡ region + 1 → words_in region_words shut kept region address ≡ open_kept region_words shut kept address
added_here region_words shut kept region address place_region = cond-true (new_place region_words shut kept address / region_words == region + 1) (open_kept region_words shut kept address) 0 (eq-eqb _ _ place_region)

pub added_elsewhere : (region_words : ℕ) (shut : ℕ → Bool) (kept : ℕ → ℕ) (region address : ℕ) → new_place region_words shut kept address / region_words ≢ region + 1 → words_in region_words shut kept region address ≡ 0
added_elsewhere region_words shut kept region address place_elsewhere = cond-false (new_place region_words shut kept address / region_words == region + 1) (open_kept region_words shut kept address) 0 (ne_eqb _ _ place_elsewhere)

pub added_none : (region_words : ℕ) (shut : ℕ → Bool) (kept : ℕ → ℕ) (region address : ℕ) → open_kept region_words shut kept address ≡ 0 → words_in region_words shut kept region address ≡ 0
added_none region_words shut kept region address nothing_kept = cond_both (new_place region_words shut kept address / region_words == region + 1) (open_kept region_words shut kept address) 0 (λ value. value ≡ 0) (λ _. nothing_kept) (λ _. refl)

-- an address without an object of an open region changes no top
pub top_same : (region_words : ℕ) (shut : ℕ → Bool) (kept : ℕ → ℕ) (region address : ℕ) → open_kept region_words shut kept address ≡ 0 → top_before region_words shut kept region (suc address) ≡ top_before region_words shut kept region address
top_same region_words shut kept region address nothing_kept = omega (arith, sum_next (words_in region_words shut kept region) address, added_none region_words shut kept region address nothing_kept)

-- The end before an address and the tops before it are one another's: a region whose base is not below the end is empty
-- yet, and the region in which the end lies is filled up to it.
record Follow (w : ℕ) (top : ℕ → ℕ) (end : ℕ) : Type 0 where
  empty : (r : ℕ) → end ≤ r * w + w → top r ≡ 0
  filled : (r : ℕ) → r * w + w ≤ end → end ≤ r * w + w + w → r * w + w + top r ≡ end

-- so many words are placed behind the end: they stand at the top of their region
placed_at_top : (region_words : ℕ) (shut : ℕ → Bool) (top : ℕ → ℕ) (end words target_region : ℕ) → 0 < region_words → 0 < words → region_words ≤ end → Follow region_words top end → place_around region_words shut end words / region_words ≡ target_region + 1
    → target_region * region_words + region_words + top target_region ≡ place_around region_words shut end words
placed_at_top region_words shut top end words target_region region_positive some_words past_first follow =
    around_cases region_words shut end words some_words (λ place. place / region_words ≡ target_region + 1 → target_region * region_words + region_words + top target_region ≡ place)
    (λ _ place_region.
    let row : end / region_words * region_words ≡ (target_region + 1) * region_words = ap (λ value. value * region_words) place_region in
    follow.filled target_region (omega (arith, row, div-add-mod' end region_words)) (omega (arith, row, div-add-mod' end region_words, mod_below end region_words region_positive)))
    (λ row_above place_region.
    let next_row = open_row region_words shut end words in
    let plain_sum : next_row * region_words + 0 ≡ next_row * region_words = omega arith in
    let number : next_row ≡ target_region + 1 = sym (div-mul-add next_row region_words 0 region_positive) ∙ ap (λ value. value / region_words) plain_sum ∙ place_region in
    let row : next_row * region_words ≡ (target_region + 1) * region_words = ap (λ value. value * region_words) number in
    let rows_far = mul-le (end / region_words + 1) region_words next_row region_words (omega (arith, row_from region_words shut end words, row_above)) (omega arith) in
    let no_top = follow.empty target_region (omega (arith, row, rows_far, div-add-mod' end region_words, mod_below end region_words region_positive)) in
    omega (arith, row, no_top))

-- an object more: where it is placed at the top of region q, tops and end go on together
follow_more : (words : ℕ) (top next_top : ℕ → ℕ) (end place size region : ℕ) → Follow words top end → 0 < size → end ≤ place → place / words ≡ region + 1 → place % words + size ≤ words
    → region * words + words + top region ≡ place → next_top region ≡ top region + size → ((other_region : ℕ) → other_region ≢ region → next_top other_region ≡ top other_region) → Follow words next_top (place + size)
follow_more words top next_top end place size region follow some_size place_above place_region place_fits at_top grown others_same =
    let row : place / words * words ≡ (region + 1) * words = ap (λ any_region. any_region * words) place_region in
    record {
      empty = λ other_region past_end. ⊎_elim
          (λ (same_region : other_region ≡ region). let same_base : other_region * words ≡ region * words = ap (λ any_region. any_region * words) same_region in absurd (omega (arith, past_end, same_base, row, some_size, div-add-mod' place words)))
          (λ (regions_differ : other_region ≢ region). others_same other_region regions_differ ∙ follow.empty other_region (omega (arith, past_end, place_above)))
          (cases_eq other_region region);
      filled = λ other_region row_above row_below. ⊎_elim
          (λ (same_region : other_region ≡ region). subst (λ any_region. any_region * words + words + next_top any_region ≡ place + size) (sym same_region) (omega (arith, grown, at_top)))
          (λ (regions_apart : (other_region * words + words ≤ region * words) ⊎ (region * words + words ≤ other_region * words)).
          ⊎_elim
          (λ (lower : other_region * words + words ≤ region * words). absurd (omega (arith, lower, row_below, row, some_size, div-add-mod' place words)))
          (λ (higher : region * words + words ≤ other_region * words).
          let regions_differ : other_region ≢ region = λ same_region. (let same_base : other_region * words ≡ region * words = ap (λ any_region. any_region * words) same_region in omega (arith, same_base, higher, place_fits, some_size)) in
          let no_top = follow.empty other_region (omega (arith, place_above, higher, row, place_fits, div-add-mod' place words)) in
          omega (arith, others_same other_region regions_differ, no_top, row_above, higher, row, place_fits, div-add-mod' place words))
          regions_apart)
          (rows_apart words other_region region);
    }

-- the region of a place, counted from 0
abbrev pub region_of_place : (region_words : ℕ) (shut : ℕ → Bool) (kept : ℕ → ℕ) → ℕ → ℕ
region_of_place region_words shut kept address = new_place region_words shut kept address / region_words - 1

module _ (region_words : ℕ) (shut : ℕ → Bool) (kept : ℕ → ℕ) (lie_apart : LieApart region_words kept) where
  pub in_region : (address : ℕ) → 0 < kept address → new_place region_words shut kept address / region_words ≡ region_of_place region_words shut kept address + 1
  in_region address some_kept = ⊎_elim
      (λ (below_first : new_place region_words shut kept address / region_words < 1).
      let in_none : new_place region_words shut kept address / region_words ≡ 0 = omega (arith, below_first) in
      let row : new_place region_words shut kept address / region_words * region_words ≡ 0 * region_words = ap (λ number. number * region_words) in_none in
      absurd (omega (arith, row, stays_above region_words shut kept lie_apart address some_kept, lie_apart.some, div-add-mod' (new_place region_words shut kept address) region_words, mod_below (new_place region_words shut kept address) region_words lie_apart.some)))
      (λ (past_first : 1 ≤ new_place region_words shut kept address / region_words). omega (arith, past_first))
      (cases_lt (new_place region_words shut kept address / region_words) 1)

  tops_follow : (bound : ℕ) → Follow region_words (λ region. top_before region_words shut kept region bound) (end_before region_words shut kept bound)
  unfolding end_before
  tops_follow zero = record {
    empty = λ region _. sum_none (words_in region_words shut kept region);
    filled = λ region low high. let nothing_added = sum_none (words_in region_words shut kept region) in omega (arith, nothing_added, low);
  }
  tops_follow (suc address) =
      let follow_before = tops_follow address in
      let new_region = region_of_place region_words shut kept address in
      ⊎_elim
      (λ (nothing_added : open_kept region_words shut kept address ≡ 0).
      let same_end = end_same region_words shut kept address nothing_added in
      record {
        empty = λ region past_end. top_same region_words shut kept region address nothing_added ∙ follow_before.empty region (omega (arith, past_end, same_end));
        filled = λ region low high. (let was_filled = follow_before.filled region (omega (arith, low, same_end)) (omega (arith, high, same_end)) in omega (arith, was_filled, top_same region_words shut kept region address nothing_added, same_end));
      })
      (λ (open_object : (0 < kept address) × (shut (address / region_words) ≡ false) × (open_kept region_words shut kept address ≡ kept address)).
      let place_region : new_place region_words shut kept address / region_words ≡ new_region + 1 = in_region address open_object.0 in
      let new = new_open region_words shut kept address open_object.1 in
      let top = placed_at_top region_words shut (λ region. top_before region_words shut kept region address) (end_before region_words shut kept address) (kept address) new_region lie_apart.some open_object.0 (end_from_first region_words shut kept lie_apart address) follow_before (ap (λ number. number / region_words) (sym new) ∙ place_region) in
      subst (Follow region_words (λ region. top_before region_words shut kept region (suc address))) (sym (end_behind region_words shut kept address open_object.1))
      (follow_more region_words (λ region. top_before region_words shut kept region address) (λ region. top_before region_words shut kept region (suc address)) (end_before region_words shut kept address) (new_place region_words shut kept address) (kept address) new_region follow_before
      open_object.0 (place_from_end region_words shut kept lie_apart address open_object.1) place_region (stays_within region_words shut kept lie_apart address open_object.0)
      (omega (arith, top, new))
      (omega (arith, sum_next (words_in region_words shut kept new_region) address, added_here region_words shut kept new_region address place_region, open_object.2))
      (λ region other_region. (let nothing_added = added_elsewhere region_words shut kept region address (λ same_region. other_region (omega (arith, same_region, place_region))) in omega (arith, sum_next (words_in region_words shut kept region) address, nothing_added)))))
      (open_or_none region_words shut kept address)

  -- an object of an open region stands at the top that its new region has by then
  pub at_top : (region address : ℕ) → 0 < open_kept region_words shut kept address → new_place region_words shut kept address / region_words ≡ region + 1 → new_place region_words shut kept address ≡ (region + 1) * region_words + top_before region_words shut kept region address
  at_top region address some_open place_region =
      let open_object = is_open region_words shut kept address some_open in
      let new = new_open region_words shut kept address open_object.1 in
      let top = placed_at_top region_words shut (λ region. top_before region_words shut kept region address) (end_before region_words shut kept address) (kept address) region lie_apart.some open_object.0 (end_from_first region_words shut kept lie_apart address) (tops_follow address) (ap (λ number. number / region_words) (sym new) ∙ place_region) in
      omega (arith, top, new)

  -- so the top by then is how far the place is from the base
  pub top_is_offset : (region address : ℕ) → 0 < open_kept region_words shut kept address → new_place region_words shut kept address / region_words ≡ region + 1 → top_before region_words shut kept region address ≡ new_place region_words shut kept address % region_words
  top_is_offset region address some_open place_region =
      let row : new_place region_words shut kept address / region_words * region_words ≡ (region + 1) * region_words = ap (λ number. number * region_words) place_region in
      omega (arith, row, at_top region address some_open place_region, div-add-mod' (new_place region_words shut kept address) region_words)

  -- An address either adds nothing to the top of a region, or has an object of an open region there.
  pub added : (region address : ℕ) → ((words_in region_words shut kept region address ≡ 0) ⊎ ((0 < open_kept region_words shut kept address) × (new_place region_words shut kept address / region_words ≡ region + 1)))
  added region address = ⊎_elim
      (λ (place_region : new_place region_words shut kept address / region_words ≡ region + 1). ⊎_elim
      (λ (nothing_kept : open_kept region_words shut kept address ≡ 0). inl (added_none region_words shut kept region address nothing_kept))
      (λ (kept_differs : open_kept region_words shut kept address ≢ 0). inr (omega (arith, kept_differs), place_region))
      (cases_eq (open_kept region_words shut kept address) 0))
      (λ (place_elsewhere : new_place region_words shut kept address / region_words ≢ region + 1). inl (added_elsewhere region_words shut kept region address place_elsewhere))
      (cases_eq (new_place region_words shut kept address / region_words) (region + 1))

  -- no top is above its region's words
  pub top_within : (region bound : ℕ) → top_before region_words shut kept region bound ≤ region_words
  top_within region zero = let nothing_added = sum_none (words_in region_words shut kept region) in omega (arith, nothing_added)
  top_within region (suc address) =
      let grown_sum = sum_next (words_in region_words shut kept region) address in
      ⊎_elim
      (λ (nothing_added : words_in region_words shut kept region address ≡ 0). omega (arith, grown_sum, nothing_added, top_within region address))
      (λ (added_object : (0 < open_kept region_words shut kept address) × (new_place region_words shut kept address / region_words ≡ region + 1)).
      let open_object = is_open region_words shut kept address added_object.0 in
      omega (arith, grown_sum, added_here region_words shut kept region address added_object.1, top_is_offset region address added_object.0 added_object.1, open_object.2, stays_within region_words shut kept lie_apart address open_object.0))
      (added region address)

  -- a region that has a top has an object at its base
  pub first_is_at_base : (region bound : ℕ) → 0 < top_before region_words shut kept region bound → (address : ℕ) × ((address < bound) × (0 < open_kept region_words shut kept address) × (new_place region_words shut kept address ≡ (region + 1) * region_words))
  first_is_at_base region zero some_top = absurd (let nothing_added = sum_none (words_in region_words shut kept region) in omega (arith, nothing_added, some_top))
  first_is_at_base region (suc address) some_top =
      let grown_sum = sum_next (words_in region_words shut kept region) address in
      let earlier : 0 < top_before region_words shut kept region address → (base_address : ℕ) × ((base_address < suc address) × (0 < open_kept region_words shut kept base_address) × (new_place region_words shut kept base_address ≡ (region + 1) * region_words)) =
      λ has_top. (let first_found = first_is_at_base region address has_top in (first_found.0, (omega (arith, first_found.1.0), first_found.1.1, first_found.1.2))) in
      ⊎_elim
      (λ (nothing_added : words_in region_words shut kept region address ≡ 0). earlier (omega (arith, grown_sum, nothing_added, some_top)))
      (λ (added_object : (0 < open_kept region_words shut kept address) × (new_place region_words shut kept address / region_words ≡ region + 1)). ⊎_elim
      (λ (empty : top_before region_words shut kept region address ≡ 0). (address, (omega arith, added_object.0, (let stands_at_top = at_top region address added_object.0 added_object.1 in omega (arith, stands_at_top, empty)))))
      (λ (has_top : top_before region_words shut kept region address ≢ 0). earlier (omega (arith, has_top)))
      (cases_eq (top_before region_words shut kept region address) 0))
      (added region address)

  -- an object that ends below its region's top has another right behind it
  pub next_is_behind : (region address bound : ℕ) → address < bound → 0 < open_kept region_words shut kept address → new_place region_words shut kept address / region_words ≡ region + 1
      → new_place region_words shut kept address + kept address < (region + 1) * region_words + top_before region_words shut kept region bound
      → (next_address : ℕ) × ((next_address < bound) × (0 < open_kept region_words shut kept next_address) × (new_place region_words shut kept next_address ≡ new_place region_words shut kept address + kept address))
  next_is_behind region address zero address_inside some_open place_region ends_below = absurd (omega (arith, address_inside))
  next_is_behind region address (suc bound) address_inside some_open place_region ends_below =
      let open_object = is_open region_words shut kept address some_open in
      let grown_sum = sum_next (words_in region_words shut kept region) bound in
      let earlier : address < bound → new_place region_words shut kept address + kept address < (region + 1) * region_words + top_before region_words shut kept region bound → (next_address : ℕ) × ((next_address < suc bound) × (0 < open_kept region_words shut kept next_address) × (new_place region_words shut kept next_address ≡ new_place region_words shut kept address + kept address)) =
      λ address_below end_below. (let next_found = next_is_behind region address bound address_below some_open place_region end_below in (next_found.0, (omega (arith, next_found.1.0), next_found.1.1, next_found.1.2))) in
      ⊎_elim
      (λ (last_address : address ≡ bound).
      let same_top : top_before region_words shut kept region address ≡ top_before region_words shut kept region bound = ap (top_before region_words shut kept region) last_address in
      let same_words : words_in region_words shut kept region address ≡ words_in region_words shut kept region bound = ap (words_in region_words shut kept region) last_address in
      absurd (omega (arith, ends_below, grown_sum, same_top, same_words, added_here region_words shut kept region address place_region, open_object.2, at_top region address some_open place_region)))
      (λ (address_differs : address ≢ bound).
      let address_below : address < bound = omega (arith, address_inside, address_differs) in
      ⊎_elim
      (λ (nothing_added : words_in region_words shut kept region bound ≡ 0). earlier address_below (omega (arith, ends_below, grown_sum, nothing_added)))
      (λ (added_object : (0 < open_kept region_words shut kept bound) × (new_place region_words shut kept bound / region_words ≡ region + 1)). ⊎_elim
      (λ (end_below : new_place region_words shut kept address + kept address < (region + 1) * region_words + top_before region_words shut kept region bound). earlier address_below end_below)
      (λ (reaches_top : (region + 1) * region_words + top_before region_words shut kept region bound ≤ new_place region_words shut kept address + kept address).
      let place_after = stays_apart region_words shut kept lie_apart address bound open_object.1 (is_open region_words shut kept bound added_object.0).1 address_below in
      (bound, (omega arith, added_object.0, (let stands_at_top = at_top region bound added_object.0 added_object.1 in omega (arith, stands_at_top, place_after, reaches_top)))))
      (cases_lt (new_place region_words shut kept address + kept address) ((region + 1) * region_words + top_before region_words shut kept region bound)))
      (added region bound))
      (cases_eq address bound)

  -- the place of a kept object of the heap is in one of its regions
  pub place_in_range : (regions address : ℕ) → 0 < kept address → address < (regions + 1) * region_words → region_of_place region_words shut kept address < regions
  place_in_range regions address some_kept address_inside =
      let row : new_place region_words shut kept address / region_words * region_words ≡ (region_of_place region_words shut kept address + 1) * region_words = ap (λ number. number * region_words) (in_region address some_kept) in
      ⊎_elim
      (λ (region_below : region_of_place region_words shut kept address < regions). region_below)
      (λ (region_past : regions ≤ region_of_place region_words shut kept address).
      let rows_far = mul-le (regions + 1) region_words (region_of_place region_words shut kept address + 1) region_words (omega (arith, region_past)) (omega arith) in
      absurd (omega (arith, rows_far, row, address_inside, moves_down region_words shut kept lie_apart address some_kept, div-add-mod' (new_place region_words shut kept address) region_words)))
      (cases_lt (region_of_place region_words shut kept address) regions)

  -- the tops are together the words of the kept objects of open regions
  pub tops_are_words : (regions : ℕ) → ((address : ℕ) → 0 < kept address → address < (regions + 1) * region_words) → (bound : ℕ)
      → sum_below (λ region. top_before region_words shut kept region bound) regions ≡ sum_below (open_kept region_words shut kept) bound
  tops_are_words regions kept_inside zero =
      sum_of_none (λ region. top_before region_words shut kept region 0) regions (λ region _. sum_none (words_in region_words shut kept region)) ∙ sym (sum_none (open_kept region_words shut kept))
  tops_are_words regions kept_inside (suc address) =
      let sum_before = tops_are_words regions kept_inside address in
      let step : sum_below (λ region. top_before region_words shut kept region (suc address)) regions ≡ sum_below (λ region. top_before region_words shut kept region address + words_in region_words shut kept region address) regions =
      sum_same (λ region. top_before region_words shut kept region (suc address)) (λ region. top_before region_words shut kept region address + words_in region_words shut kept region address) regions (λ region _. sum_next (words_in region_words shut kept region) address) in
      let split = sum_both (λ region. top_before region_words shut kept region address) (λ region. words_in region_words shut kept region address) regions in
      let added_once : sum_below (λ region. words_in region_words shut kept region address) regions ≡ open_kept region_words shut kept address = ⊎_elim
      (λ (nothing_kept : open_kept region_words shut kept address ≡ 0). sum_of_none (λ region. words_in region_words shut kept region address) regions (λ region _. added_none region_words shut kept region address nothing_kept) ∙ sym nothing_kept)
      (λ (open_object : (0 < kept address) × (shut (address / region_words) ≡ false) × (open_kept region_words shut kept address ≡ kept address)).
      let new_region = region_of_place region_words shut kept address in
      sum_of_one (λ region. words_in region_words shut kept region address) regions new_region (place_in_range regions address open_object.0 (kept_inside address open_object.0))
      (λ region _ other_region. added_elsewhere region_words shut kept region address (λ same_region. other_region (omega (arith, same_region, in_region address open_object.0))))
      ∙ added_here region_words shut kept new_region address (in_region address open_object.0))
      (open_or_none region_words shut kept address) in
      omega (arith, sum_before, step, split, added_once, sum_next (open_kept region_words shut kept) address)

  -- no word is placed in a shut region
  pub top_in_shut : ((address : ℕ) → 0 < kept address → address < 65 * region_words) → (region bound : ℕ) → shut (region + 1) ≡ true → top_before region_words shut kept region bound ≡ 0
  top_in_shut kept_inside region bound row_shut = sum_of_none (words_in region_words shut kept region) bound (λ address _. ⊎_elim
      (λ (nothing_added : words_in region_words shut kept region address ≡ 0). nothing_added)
      (λ (added_object : (0 < open_kept region_words shut kept address) × (new_place region_words shut kept address / region_words ≡ region + 1)).
      let open_object = is_open region_words shut kept address added_object.0 in
      absurd (true≢false (sym row_shut ∙ ap shut (sym added_object.1) ∙ same_kind region_words shut kept lie_apart kept_inside address open_object.0 ∙ open_object.1)))
      (added region address))

  pub tops_are_filled : (regions : ℕ) → regions ≤ 64 → ((address : ℕ) → 0 < kept address → address < (regions + 1) * region_words) → TopsAreFilled region_words shut kept regions
  tops_are_filled regions at_most kept_inside = record {
    at_top = at_top;
    within = top_within;
    none_in_shut = top_in_shut (λ address kept_words. (let rows = mul-le (regions + 1) region_words 65 region_words (omega (arith, at_most)) (omega arith) in omega (arith, rows, kept_inside address kept_words)));
    sum = tops_are_words regions kept_inside;
  }

-- where nothing is kept each top is 0
pub top_of_none : (region_words : ℕ) (shut : ℕ → Bool) (kept : ℕ → ℕ) (region bound : ℕ) → ((address : ℕ) → address < bound → kept address ≡ 0) → top_before region_words shut kept region bound ≡ 0
top_of_none region_words shut kept region bound none_kept = sum_of_none (words_in region_words shut kept region) bound (λ address address_below. ⊎_elim
    (λ (nothing : open_kept region_words shut kept address ≡ 0). added_none region_words shut kept region address nothing)
    (λ (open_object : (0 < kept address) × (shut (address / region_words) ≡ false) × (open_kept region_words shut kept address ≡ kept address)). absurd (omega (arith, open_object.0, none_kept address address_below)))
    (open_or_none region_words shut kept address))
