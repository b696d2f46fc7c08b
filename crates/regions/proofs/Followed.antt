-- The table of new places, once it was followed: it renews each word by the current copy of what the word names.
use Rattle.std.proofs.Common.{◌≡◌, ◌≢◌, ℕ, ◌+◌, ◌-◌, ◌*◌, ◌<◌, ◌≤◌, ◌==◌, ◌&&◌, Bool, true, false, nat_le, nat_lt, List, length, get_or, ⊎_elim, sym, ap, ◌∙◌, subst, arith}
use Rattle.std.proofs.lemmas.Bool.{cond-true, cond-false, cases_Bool, cases_eq, eq-eqb, ne_eqb, and_from, and_left, le-leb, lt-ltb}
use Rattle.std.proofs.lemmas.Nat.{mul-le}
use Rattle.heap_words.specs.Encoding.{is_forwarded, forwardee_in}
use Rattle.regions.proofs.Placed.{stays_above, moves_down, places_apart, covering, covers}
use Rattle.regions.specs.Slide.{renewed, IsSlidTo, PlacesApart}
use Rattle.regions.specs.Table.{word_of, kept_of, now_of, current_index, IsOwnCopy, place_of, HavePlaces, IsPlacing, AreInTable, from_table, LeadsToKept, CanCompact, IsRenewedBy}
use Rattle.regions.proofs.Slid.{renewed_alike, placed_alike}

-- the index of a current copy in the heap is that of its address
index_of_current : (region_words : ℕ) (heap : List ℕ) (word : ℕ) → region_words ≤ now_of region_words heap word → now_of region_words heap word < region_words + length heap
    → current_index region_words heap (word - region_words) ≡ now_of region_words heap word - region_words
index_of_current region_words heap word copy_above copy_below =
    let header = word_of region_words heap word in
    let target = forwardee_in header in
    ⊎_elim
    (λ (header_forwarded : is_forwarded header ≡ true).
    let current_is : now_of region_words heap word ≡ target = cond-true (is_forwarded header) target word header_forwarded in
    let target_inside : (nat_le region_words target && nat_lt target (region_words + length heap)) ≡ true =
    and_from (nat_le region_words target) (nat_lt target (region_words + length heap)) (le-leb region_words target (omega (arith, copy_above, current_is))) (lt-ltb target (region_words + length heap) (omega (arith, copy_below, current_is))) in
    cond-true (is_forwarded header && (nat_le region_words target && nat_lt target (region_words + length heap))) (target - region_words) (word - region_words)
    (and_from (is_forwarded header) (nat_le region_words target && nat_lt target (region_words + length heap)) header_forwarded target_inside)
    ∙ ap (λ number. number - region_words) (sym current_is))
    (λ (not_forwarded : is_forwarded header ≡ false).
    let current_is : now_of region_words heap word ≡ word = cond-false (is_forwarded header) target word not_forwarded in
    cond-false (is_forwarded header && (nat_le region_words target && nat_lt target (region_words + length heap))) (target - region_words) (word - region_words)
    (and_left (is_forwarded header) (nat_le region_words target && nat_lt target (region_words + length heap)) not_forwarded)
    ∙ ap (λ number. number - region_words) (sym current_is))
    (cases_Bool (is_forwarded header))

-- Places that agree with others at each kept object lie apart where those do.
apart_alike : (place other_place kept : ℕ → ℕ) → ((lower : ℕ) → 0 < kept lower → place lower ≡ other_place lower) → PlacesApart other_place kept → PlacesApart place kept
apart_alike place other_place kept alike lie_apart lower higher covered met_a met_b =
    let within_a = covering place kept lower covered met_a in
    let within_b = covering place kept higher covered met_b in
    lie_apart lower higher covered (covers other_place kept lower covered (omega (arith, alike lower within_a.2, within_a.0)) (omega (arith, alike lower within_a.2, within_a.1)))
    (covers other_place kept higher covered (omega (arith, alike higher within_b.2, within_b.0)) (omega (arith, alike higher within_b.2, within_b.1)))

module _ (region_words : ℕ) (shut : ℕ → Bool) (heap : List ℕ) (marks : List Bool) (can_compact : CanCompact region_words heap marks) (assigned followed : List ℕ) (same_length : length followed ≡ length heap)
    (has_places : HavePlaces region_words shut (kept_of region_words heap marks) assigned)
    (copies_followed : (word_index : ℕ) → word_index < length heap → IsOwnCopy region_words heap (current_index region_words heap word_index) → get_or followed word_index 0 ≡ get_or assigned (current_index region_words heap word_index) 0) where
  abbrev kept : ℕ → ℕ
  kept = kept_of region_words heap marks

  abbrev now : ℕ → ℕ
  now = now_of region_words heap

  abbrev place : ℕ → ℕ
  place = place_of region_words shut heap marks

  -- an address whose current copy is kept has the new place of that in the table
  place_of_current : (word : ℕ) → region_words ≤ word → word < region_words + length heap → 0 < kept (now word) → word_of region_words followed word ≡ place (now word)
  place_of_current word word_above word_below some_kept =
      let copy_above = can_compact.marked.apart.above (now word) some_kept in
      let object_inside = can_compact.marked.inside (now word) some_kept in
      let copy_index : current_index region_words heap (word - region_words) ≡ now word - region_words = index_of_current region_words heap word copy_above (omega (arith, object_inside, some_kept)) in
      let object_stays = can_compact.current (now word) some_kept in
      let copy_itself : current_index region_words heap (now word - region_words) ≡ now word - region_words =
      index_of_current region_words heap (now word) (omega (arith, object_stays, copy_above)) (omega (arith, object_stays, object_inside, some_kept)) ∙ ap (λ word_index. word_index - region_words) object_stays in
      copies_followed (word - region_words) (omega (arith, word_above, word_below)) (ap (current_index region_words heap) copy_index ∙ copy_itself ∙ sym copy_index)
      ∙ ap (λ index. get_or assigned index 0) copy_index ∙ has_places (now word) some_kept

  -- so each kept object has its own
  pub have_places : HavePlaces region_words shut kept followed
  have_places address some_kept =
      let object_stays = can_compact.current address some_kept in
      let address_above = can_compact.marked.apart.above address some_kept in
      let object_inside = can_compact.marked.inside address some_kept in
      let kept_now : 0 < kept (now address) = subst (λ word_index. 0 < kept word_index) (sym object_stays) some_kept in
      place_of_current address address_above (omega (arith, object_inside, some_kept)) kept_now ∙ ap (place) object_stays

  pub renewed_by : (word : ℕ) → LeadsToKept region_words heap marks word → IsRenewedBy region_words shut heap marks followed word
  renewed_by word leads = record {
    in_table = λ not_null. (let kept_target = leads not_null in (kept_target.0, omega (arith, kept_target.1, same_length)));
    renewed_as = ⊎_elim
        (λ (null : word ≡ 0). cond-true (word == 0) 0 (word_of region_words followed word) (eq-eqb word 0 null) ∙ sym (cond-true (word == 0) 0 (place (now word)) (eq-eqb word 0 null)))
        (λ (not_null : word ≢ 0).
        let kept_target = leads not_null in
        cond-false (word == 0) 0 (word_of region_words followed word) (ne_eqb word 0 not_null)
        ∙ place_of_current word kept_target.0 kept_target.1 kept_target.2
        ∙ sym (cond-false (word == 0) 0 (place (now word)) (ne_eqb word 0 not_null)))
        (cases_eq word 0);
  }

  pub are_in_table : AreInTable region_words kept (word_of region_words heap) followed
  are_in_table address slot some_kept field_below = (renewed_by (word_of region_words heap (address + (3 + slot))) (can_compact.closed address slot some_kept field_below)).in_table

  -- where the heap has at most 64 regions, what the table has are places for sliding
  pub is_placing : ((address : ℕ) → 0 < kept address → address < 65 * region_words) → IsPlacing region_words kept followed
  is_placing kept_inside = record {
    low = λ address some_kept. omega (arith, have_places address some_kept, stays_above region_words shut kept can_compact.marked.apart address some_kept);
    down = λ address some_kept. omega (arith, have_places address some_kept, moves_down region_words shut kept can_compact.marked.apart address some_kept);
    apart = apart_alike (word_of region_words followed) place kept have_places (places_apart region_words shut kept can_compact.marked.apart kept_inside);
  }

  -- what was slid by the table was slid to the places, by current copies
  pub slid_by_now : (end : ℕ) (after : ℕ → ℕ) → IsSlidTo end region_words (word_of region_words followed) kept (from_table region_words followed) (word_of region_words heap) after
      → IsSlidTo end region_words place kept (renewed place now) (word_of region_words heap) after
  slid_by_now end after slid =
      renewed_alike place kept (from_table region_words followed) (word_of region_words heap) (renewed place now) region_words end after
      (λ object_address field some_kept few. (renewed_by (word_of region_words heap (object_address + (3 + field))) (can_compact.closed object_address field some_kept few)).renewed_as)
      (placed_alike region_words end (word_of region_words followed) place kept (from_table region_words followed) (word_of region_words heap) after have_places slid)

-- each kept object lies in a heap of at most 64 regions
pub in_rows : (region_words : ℕ) (heap : List ℕ) (marks : List Bool) (regions : ℕ) → CanCompact region_words heap marks → length heap ≡ regions * region_words → regions ≤ 64
    → (address : ℕ) → 0 < kept_of region_words heap marks address → address < 65 * region_words
in_rows region_words heap marks regions can_compact tile at_most address some_kept =
    let rows = mul-le regions region_words 64 region_words at_most (omega arith) in
    omega (arith, can_compact.marked.inside address some_kept, some_kept, tile, rows)
