-- One address more of the sweep that assigns the places.
use Rattle.std.proofs.Common.{◌≡◌, ◌≢◌, ℕ, ◌+◌, ◌-◌, ◌*◌, ◌/◌, ◌^◌, ◌<◌, ◌≤◌, Bool, true, false, if◌then◌else◌, List, length, get_or, set, suc, sym, ap, ◌∙◌, ⊎_elim, arith}
use Rattle.std.proofs.lemmas.Bool.{cond-false, cases_eq, cases_Bool}
use Rattle.std.proofs.lemmas.List.{get_or-set_same, get_or-set_other, length-set}
use Rattle.std.proofs.lemmas.Nat.{div-add-mod', mul-le}
use Rattle.std.proofs.Math.Nat.{div-le_self}
use Rattle.heap_words.specs.Encoding.{object_words}
use Rattle.regions.specs.Places.{place_around, open_kept, end_before, new_place}
use Rattle.regions.specs.Tops.{words_in, top_before}
use Rattle.regions.proofs.Placed.{end_same, end_behind, open_same, shut_none, new_open, new_shut, end_at_object, moves_down, stays_above, stays_within, same_kind}
use Rattle.regions.proofs.Sums.{sum_next}
use Rattle.regions.proofs.Tops.{in_region, top_is_offset, place_in_range, added_here, added_elsewhere, top_same}
use Rattle.regions.specs.Table.{kept_of, word_of, IsMarkedHeap}
use Rattle.regions.proofs.Flags.{kept_marked, kept_unmarked}

-- An object of an open region is placed: at its new place, within the heap, at the top of an open region that has room for it.
pub record IsPlaced (region_words : ℕ) (shut : ℕ → Bool) (length_of_heap regions : ℕ) (kept : ℕ → ℕ) (a words place : ℕ) : Type 0 where
  pub words_are : words ≡ kept a
  pub counts : open_kept region_words shut kept a ≡ words
  pub some : 0 < words
  pub place_is : place ≡ new_place region_words shut kept a
  pub end : end_before region_words shut kept (suc a) ≡ place + words
  pub low : region_words ≤ place
  pub down : place ≤ a
  pub high : place + words ≤ region_words + length_of_heap
  pub region_some : 1 ≤ place / region_words
  pub region_within : place / region_words - 1 < regions
  pub region_small : place / region_words - 1 ≤ 2 ^ 32
  pub here : new_place region_words shut kept a / region_words ≡ place / region_words - 1 + 1
  pub region_open : shut (place / region_words - 1 + 1) ≡ false
  pub room : top_before region_words shut kept (place / region_words - 1) a + words ≤ region_words

module _ (region_words : ℕ) (shut : ℕ → Bool) (heap : List ℕ) (marks : List Bool) (regions : ℕ) (heap_marked : IsMarkedHeap region_words heap marks) (tile : length heap ≡ regions * region_words) (few_regions : regions ≤ 64) where
  abbrev kept : ℕ → ℕ
  kept = kept_of region_words heap marks

  -- a heap of at most 64 regions
  inside : (address : ℕ) → 0 < kept address → address < 65 * region_words
  inside address some_kept = let rows = mul-le regions region_words 64 region_words few_regions (omega arith) in omega (arith, heap_marked.inside address some_kept, some_kept, tile, rows)

  -- the shape word of a marked object is in the heap
  pub shape_inside : (index : ℕ) → get_or marks index false ≡ true → index + 1 < length heap
  shape_inside index met =
      let size = kept_marked region_words heap marks index met in
      omega (arith, size, heap_marked.inside (region_words + index) (omega (arith, size)))

  -- the sums that the code makes fit
  pub fits_behind : (index end words : ℕ) → get_or marks index false ≡ true → end ≡ end_before region_words shut kept (region_words + index) → words ≡ object_words (get_or heap (index + 1) 0)
      → end + region_words + words < 2 ^ 63
  fits_behind index end words met end_is words_are =
      let size = kept_marked region_words heap marks index met in
      let some_kept : 0 < kept (region_words + index) = omega (arith, size) in
      let end_low = end_at_object region_words shut kept heap_marked.apart (region_words + index) some_kept in
      let object_inside = heap_marked.inside (region_words + index) some_kept in
      omega (arith, end_is, words_are, size, end_low, object_inside, heap_marked.small)

  pub rows_fit : (index end : ℕ) → get_or marks index false ≡ true → end ≡ end_before region_words shut kept (region_words + index) → (end / region_words + 65) * region_words < 2 ^ 64
  rows_fit index end met end_is =
      let size = kept_marked region_words heap marks index met in
      let some_kept : 0 < kept (region_words + index) = omega (arith, size) in
      let end_low = end_at_object region_words shut kept heap_marked.apart (region_words + index) some_kept in
      let object_inside = heap_marked.inside (region_words + index) some_kept in
      omega (arith, end_is, end_low, object_inside, heap_marked.small, div-add-mod' end region_words)

  pub is_placed : (index end words place : ℕ) → get_or marks index false ≡ true → shut ((region_words + index) / region_words) ≡ false → end ≡ end_before region_words shut kept (region_words + index) → words ≡ object_words (get_or heap (index + 1) 0)
      → place ≡ place_around region_words shut end words → IsPlaced region_words shut (length heap) regions kept (region_words + index) words place
  is_placed index end words place met row_open end_is words_are place_is =
      let size = kept_marked region_words heap marks index met in
      let same_words : words ≡ kept (region_words + index) = omega (arith, size, words_are) in
      let some_kept : 0 < kept (region_words + index) = omega (arith, size) in
      let at_new_place : place ≡ new_place region_words shut kept (region_words + index) =
      place_is ∙ ap (λ given_end. place_around region_words shut given_end words) end_is ∙ ap (place_around region_words shut (end_before region_words shut kept (region_words + index))) same_words ∙ sym (new_open region_words shut kept (region_words + index) row_open) in
      let row : new_place region_words shut kept (region_words + index) / region_words ≡ place / region_words = ap (λ given_place. given_place / region_words) (sym at_new_place) in
      let region = in_region region_words shut kept heap_marked.apart (region_words + index) some_kept in
      let object_inside = heap_marked.inside (region_words + index) some_kept in
      let down = moves_down region_words shut kept heap_marked.apart (region_words + index) some_kept in
      let same_region : new_place region_words shut kept (region_words + index) / region_words ≡ place / region_words - 1 + 1 = omega (arith, region, row) in
      let counts = open_same region_words shut kept (region_words + index) row_open in
      let place_within = place_in_range region_words shut kept heap_marked.apart regions (region_words + index) some_kept (omega (arith, object_inside, tile, some_kept)) in
      let top = top_is_offset region_words shut kept heap_marked.apart (place / region_words - 1) (region_words + index) (omega (arith, counts, some_kept)) same_region in
      record {
        words_are = same_words;
        counts = omega (arith, counts, same_words);
        some = omega (arith, same_words, some_kept);
        place_is = at_new_place;
        end = omega (arith, end_behind region_words shut kept (region_words + index) row_open, at_new_place, same_words);
        low = omega (arith, at_new_place, stays_above region_words shut kept heap_marked.apart (region_words + index) some_kept);
        down = omega (arith, at_new_place, down);
        high = omega (arith, at_new_place, down, same_words, object_inside);
        region_some = omega (arith, region, row);
        region_within = omega (arith, place_within, row);
        region_small = omega (arith, div-le_self place region_words, at_new_place, down, same_words, object_inside, heap_marked.small);
        here = same_region;
        region_open = ap shut (sym same_region) ∙ same_kind region_words shut kept heap_marked.apart inside (region_words + index) some_kept ∙ row_open;
        room = omega (arith, top, same_words, stays_within region_words shut kept heap_marked.apart (region_words + index) some_kept);
      }

  -- one address more, by the one before
  next_end : (index : ℕ) → end_before region_words shut kept (suc (region_words + index)) ≡ end_before region_words shut kept (region_words + (index + 1))
  next_end index = let next_address : suc (region_words + index) ≡ region_words + (index + 1) = omega arith in ap (end_before region_words shut kept) next_address

  next_top : (index region : ℕ) → top_before region_words shut kept region (suc (region_words + index)) ≡ top_before region_words shut kept region (region_words + (index + 1))
  next_top index region = let next_address : suc (region_words + index) ≡ region_words + (index + 1) = omega arith in ap (top_before region_words shut kept region) next_address

  -- the end, the places and the tops behind a marked object of an open region
  pub end_marked : (index words place : ℕ) → IsPlaced region_words shut (length heap) regions kept (region_words + index) words place → place + words ≡ end_before region_words shut kept (region_words + (index + 1))
  end_marked index words place object_placed = sym object_placed.end ∙ next_end index

  -- a place of an object more, be it of an open region or not
  pub places_more : (index place : ℕ) (places : List ℕ) → place ≡ new_place region_words shut kept (region_words + index) → index < length places
      → ((address : ℕ) → address < region_words + index → 0 < kept address → word_of region_words places address ≡ new_place region_words shut kept address)
      → (address : ℕ) → address < region_words + (index + 1) → 0 < kept address → word_of region_words (set places index place) address ≡ new_place region_words shut kept address
  places_more object_index place places place_is index_below placed_before address address_below some_kept = ⊎_elim
      (λ (same_address : region_words + object_index ≡ address).
      let index : address - region_words ≡ object_index = omega (arith, same_address) in
      ap (λ index. get_or (set places object_index place) index 0) index ∙ get_or-set_same places object_index place 0 index_below ∙ place_is ∙ ap (new_place region_words shut kept) same_address)
      (λ (other_address : region_words + object_index ≢ address).
      let address_above = heap_marked.apart.above address some_kept in
      let indices_differ : address - region_words ≢ object_index = λ same_index. other_address (omega (arith, same_index, address_above)) in
      get_or-set_other places object_index (address - region_words) place 0 indices_differ ∙ placed_before address (omega (arith, address_below, other_address)) some_kept)
      (cases_eq (region_words + object_index) address)

  -- what the tops are by then
  abbrev pub HaveTops : (old tops : List ℕ) → ℕ → Type 0
  HaveTops old tops address = (index : ℕ) → index < length tops → get_or tops index 0 ≡ (if shut (index + 1) then get_or old index 0 else top_before region_words shut kept index address)

  pub tops_marked : (object_index words place : ℕ) (old tops : List ℕ) → IsPlaced region_words shut (length heap) regions kept (region_words + object_index) words place → length tops ≡ regions
      → HaveTops old tops (region_words + object_index) → HaveTops old (set tops (place / region_words - 1) (get_or tops (place / region_words - 1) 0 + words)) (region_words + (object_index + 1))
  tops_marked object_index words place old tops object_placed as_many_tops before region region_below =
      let place_region = place / region_words - 1 in
      let place_below : place_region < length tops = omega (arith, object_placed.region_within, as_many_tops) in
      let region_within : region < length tops = omega (arith, region_below, length-set tops place_region (get_or tops place_region 0 + words)) in
      let step = sum_next (words_in region_words shut kept region) (region_words + object_index) in
      ⊎_elim
      (λ (same_region : place_region ≡ region).
      let region_open : shut (region + 1) ≡ false = ap (λ own_region. shut (own_region + 1)) (sym same_region) ∙ object_placed.region_open in
      let read : get_or (set tops place_region (get_or tops place_region 0 + words)) region 0 ≡ get_or tops place_region 0 + words =
      ap (λ own_region. get_or (set tops place_region (get_or tops place_region 0 + words)) own_region 0) (sym same_region) ∙ get_or-set_same tops place_region (get_or tops place_region 0 + words) 0 place_below in
      let same_top : get_or tops place_region 0 ≡ get_or tops region 0 = ap (λ index. get_or tops index 0) same_region in
      let row_here : new_place region_words shut kept (region_words + object_index) / region_words ≡ region + 1 = omega (arith, object_placed.here, same_region) in
      let added_words = added_here region_words shut kept region (region_words + object_index) row_here in
      let old_top = cond-false (shut (region + 1)) (get_or old region 0) (top_before region_words shut kept region (region_words + object_index)) region_open in
      let new_top = cond-false (shut (region + 1)) (get_or old region 0) (top_before region_words shut kept region (region_words + (object_index + 1))) region_open in
      omega (arith, read, same_top, before region region_within, old_top, new_top, step, added_words, next_top object_index region, object_placed.counts))
      (λ (other_region : place_region ≢ region).
      let read = get_or-set_other tops place_region region (get_or tops place_region 0 + words) 0 (λ numbers_equal. other_region (sym numbers_equal)) in
      let added_words = added_elsewhere region_words shut kept region (region_words + object_index) (λ numbers_equal. other_region (omega (arith, numbers_equal, object_placed.here))) in
      let top : top_before region_words shut kept region (region_words + object_index) ≡ top_before region_words shut kept region (region_words + (object_index + 1)) = omega (arith, step, added_words, next_top object_index region) in
      read ∙ before region region_within ∙ ap (λ given_top. if shut (region + 1) then get_or old region 0 else given_top) top)
      (cases_eq place_region region)

  -- and behind an address that does not count
  pub end_uncounted : (index end : ℕ) → open_kept region_words shut kept (region_words + index) ≡ 0 → end ≡ end_before region_words shut kept (region_words + index) → end ≡ end_before region_words shut kept (region_words + (index + 1))
  end_uncounted index end none_counted end_is = end_is ∙ sym (end_same region_words shut kept (region_words + index) none_counted) ∙ next_end index

  pub tops_uncounted : (index : ℕ) (old tops : List ℕ) → open_kept region_words shut kept (region_words + index) ≡ 0 → HaveTops old tops (region_words + index) → HaveTops old tops (region_words + (index + 1))
  tops_uncounted index old tops none_counted before region region_below =
      before region region_below ∙ ap (λ given_top. if shut (region + 1) then get_or old region 0 else given_top) (sym (top_same region_words shut kept region (region_words + index) none_counted) ∙ next_top index region)

  -- an object of a shut region stays
  pub stays_there : (index : ℕ) → shut ((region_words + index) / region_words) ≡ true → region_words + index ≡ new_place region_words shut kept (region_words + index)
  stays_there index row_shut = sym (new_shut region_words shut kept (region_words + index) row_shut)

  pub shut_counts : (index : ℕ) → shut ((region_words + index) / region_words) ≡ true → open_kept region_words shut kept (region_words + index) ≡ 0
  shut_counts index row_shut = shut_none region_words shut kept (region_words + index) row_shut

  -- an address without a marked object
  pub unmarked_counts : (index : ℕ) → get_or marks index false ≡ false → open_kept region_words shut kept (region_words + index) ≡ 0
  unmarked_counts index unset =
      let none_kept = kept_unmarked region_words heap marks index unset in
      ⊎_elim
      (λ (row_shut : shut ((region_words + index) / region_words) ≡ true). shut_none region_words shut kept (region_words + index) row_shut)
      (λ (row_open : shut ((region_words + index) / region_words) ≡ false). open_same region_words shut kept (region_words + index) row_open ∙ none_kept)
      (cases_Bool (shut ((region_words + index) / region_words)))

  pub places_unmarked : (index : ℕ) (places : List ℕ) → get_or marks index false ≡ false
      → ((address : ℕ) → address < region_words + index → 0 < kept address → word_of region_words places address ≡ new_place region_words shut kept address)
      → (address : ℕ) → address < region_words + (index + 1) → 0 < kept address → word_of region_words places address ≡ new_place region_words shut kept address
  places_unmarked index places unset placed_before address address_below some_kept = ⊎_elim
      (λ (same_address : region_words + index ≡ address). let none_kept = kept_unmarked region_words heap marks index unset in let same_kept : kept (region_words + index) ≡ kept address = ap kept same_address in absurd (omega (arith, none_kept, same_kept, some_kept)))
      (λ (other_address : region_words + index ≢ address). placed_before address (omega (arith, address_below, other_address)) some_kept)
      (cases_eq (region_words + index) address)
