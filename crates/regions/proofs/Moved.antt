-- The sweep over slices that slides the objects: one address more.
use Rattle.std.proofs.Common.{◌≡◌, ℕ, ◌+◌, ◌-◌, ◌<◌, ◌≤◌, Bool, true, false, List, length, get_or, suc, sym, ap, ◌∙◌, subst, ⊎_elim, arith}
use Rattle.heap_words.specs.Encoding.{refs_in, object_words}
use Rattle.regions.specs.Slide.{IsSlidTo}
use Rattle.regions.specs.Table.{kept_of, word_of, from_table, IsMarkedHeap, IsPlacing, IsInTable, AreInTable, IsMovedTo}
use Rattle.regions.proofs.Flags.{kept_marked, kept_unmarked}
use Rattle.regions.proofs.Slid.{slid_word-same, intact, slid_more, slid_same}

-- the word at an address, by its index
pub word_at : (region_words : ℕ) (heap : List ℕ) (index : ℕ) → word_of region_words heap (region_words + index) ≡ get_or heap index 0
word_at region_words heap word_index = let index : region_words + word_index - region_words ≡ word_index = omega arith in ap (λ index. get_or heap index 0) index

module _ (region_words : ℕ) (places : List ℕ) (marks : List Bool) (before : List ℕ) (heap_marked : IsMarkedHeap region_words before marks)
    (table : IsPlacing region_words (kept_of region_words before marks) places) where
  abbrev kept : ℕ → ℕ
  kept = kept_of region_words before marks

  abbrev place : ℕ → ℕ
  place = word_of region_words places

  abbrev renew : ℕ → ℕ
  renew = from_table region_words places

  -- where the object goes is in the heap, and not above where it is
  pub entry_low : (index : ℕ) → get_or marks index false ≡ true → region_words ≤ get_or places index 0
  entry_low index index_marked =
      let size = kept_marked region_words before marks index index_marked in
      omega (arith, word_at region_words places index, table.low (region_words + index) (omega (arith, size)))

  pub entry_down : (index : ℕ) → get_or marks index false ≡ true → get_or places index 0 - region_words ≤ index
  entry_down index index_marked =
      let size = kept_marked region_words before marks index index_marked in
      omega (arith, word_at region_words places index, table.down (region_words + index) (omega (arith, size)))

  -- its words are as they were
  pub intact_at : (now : List ℕ) (object_index index : ℕ) → get_or marks object_index false ≡ true → IsSlidTo (region_words + object_index) region_words place kept renew (word_of region_words before) (word_of region_words now) → object_index ≤ index → get_or now index 0 ≡ get_or before index 0
  intact_at now object_index index mark_set slid_to index_behind =
      let size = kept_marked region_words before marks object_index mark_set in
      sym (word_at region_words now index)
      ∙ intact region_words place kept renew (word_of region_words before) heap_marked.apart table.down (region_words + object_index) (word_of region_words now) slid_to (region_words + object_index) (region_words + index) (omega arith) (omega (arith, size)) (omega (arith, index_behind))
      ∙ word_at region_words before index

  pub entry_inside : (now : List ℕ) (index : ℕ) → get_or marks index false ≡ true → IsSlidTo (region_words + index) region_words place kept renew (word_of region_words before) (word_of region_words now) → length now ≡ length before
      → index + object_words (get_or now (index + 1) 0) ≤ length now
  entry_inside now index mark_set slid_to same_length =
      let size = kept_marked region_words before marks index mark_set in
      let same_shape : object_words (get_or now (index + 1) 0) ≡ object_words (get_or before (index + 1) 0) = ap object_words (intact_at now index (index + 1) mark_set slid_to (omega arith)) in
      omega (arith, heap_marked.inside (region_words + index) (omega (arith, size)), size, same_shape, same_length)

  pub entry_table : (now : List ℕ) (index : ℕ) → AreInTable region_words kept (word_of region_words before) places → get_or marks index false ≡ true
      → IsSlidTo (region_words + index) region_words place kept renew (word_of region_words before) (word_of region_words now)
      → (slot : ℕ) → slot < refs_in (get_or now (index + 1) 0) → IsInTable region_words places (get_or now (index + (3 + slot)) 0)
  entry_table now index refs_in_table index_marked slid_to slot slot_below =
      let size = kept_marked region_words before marks index index_marked in
      let shape_index : region_words + index + 1 ≡ region_words + (index + 1) = omega arith in
      let same_shape : refs_in (get_or now (index + 1) 0) ≡ refs_in (word_of region_words before (region_words + index + 1)) =
      ap refs_in (intact_at now index (index + 1) index_marked slid_to (omega arith) ∙ sym (word_at region_words before (index + 1)) ∙ ap (word_of region_words before) (sym shape_index)) in
      let word_index : region_words + index + (3 + slot) ≡ region_words + (index + (3 + slot)) = omega arith in
      let word : word_of region_words before (region_words + index + (3 + slot)) ≡ get_or now (index + (3 + slot)) 0 =
      ap (word_of region_words before) word_index ∙ word_at region_words before (index + (3 + slot)) ∙ sym (intact_at now index (index + (3 + slot)) index_marked slid_to (omega arith)) in
      subst (IsInTable region_words places) word (refs_in_table (region_words + index) slot (omega (arith, size)) (omega (arith, slot_below, same_shape)))

  -- one marked object more
  pub slid_at : (now after : List ℕ) (index : ℕ) → get_or marks index false ≡ true → IsSlidTo (region_words + index) region_words place kept renew (word_of region_words before) (word_of region_words now)
      → IsMovedTo renew index (get_or places index 0 - region_words) now after → IsSlidTo (region_words + (index + 1)) region_words place kept renew (word_of region_words before) (word_of region_words after)
  slid_at now after object_index index_marked slid_to object_moved =
      let same_size : kept (region_words + object_index) ≡ object_words (get_or before (object_index + 1) 0) = kept_marked region_words before marks object_index index_marked in
      let same_shape : get_or now (object_index + 1) 0 ≡ get_or before (object_index + 1) 0 = intact_at now object_index (object_index + 1) index_marked slid_to (omega arith) in
      let same_words : object_words (get_or now (object_index + 1) 0) ≡ kept (region_words + object_index) = ap object_words same_shape ∙ sym same_size in
      let place_there : get_or places object_index 0 ≡ place (region_words + object_index) = sym (word_at region_words places object_index) in
      let entry_above = entry_low object_index index_marked in
      let next_address : suc (region_words + object_index) ≡ region_words + (object_index + 1) = omega arith in
      subst (λ end. IsSlidTo end region_words place kept renew (word_of region_words before) (word_of region_words after)) next_address
      (slid_more place kept renew (word_of region_words before) table.apart region_words (region_words + object_index) (word_of region_words now) (word_of region_words after) table.low slid_to
      (λ offset inside.
      let index : place (region_words + object_index) + offset - region_words ≡ get_or places object_index 0 - region_words + offset = omega (arith, place_there, entry_above) in
      let shape_index : region_words + (object_index + 1) ≡ region_words + object_index + 1 = omega arith in
      let word_index : region_words + (object_index + offset) ≡ region_words + object_index + offset = omega arith in
      ap (λ index. get_or after index 0) index ∙ object_moved.moved offset (omega (arith, inside, same_words))
      ∙ slid_word-same renew (λ index. get_or now index 0) (word_of region_words before) object_index (region_words + object_index) offset
      (same_shape ∙ sym (word_at region_words before (object_index + 1)) ∙ ap (word_of region_words before) shape_index)
      (intact_at now object_index (object_index + offset) index_marked slid_to (omega arith) ∙ sym (word_at region_words before (object_index + offset)) ∙ ap (word_of region_words before) word_index))
      (λ target word_above outside. ⊎_elim
      (λ (word_below : target < place (region_words + object_index)). object_moved.below (target - region_words) (omega (arith, word_below, word_above, place_there, entry_above)))
      (λ (word_behind : place (region_words + object_index) + kept (region_words + object_index) ≤ target). object_moved.behind (target - region_words) (omega (arith, word_behind, word_above, place_there, entry_above, same_words)))
      outside))

  -- an address without a marked object
  pub slid_past : (now : List ℕ) (index : ℕ) → get_or marks index false ≡ false → IsSlidTo (region_words + index) region_words place kept renew (word_of region_words before) (word_of region_words now)
      → IsSlidTo (region_words + (index + 1)) region_words place kept renew (word_of region_words before) (word_of region_words now)
  slid_past now index unset slid_to =
      let next_address : suc (region_words + index) ≡ region_words + (index + 1) = omega arith in
      subst (λ end. IsSlidTo end region_words place kept renew (word_of region_words before) (word_of region_words now)) next_address
      (slid_same place kept renew (word_of region_words before) table.apart region_words (region_words + index) (word_of region_words now) table.low slid_to (kept_unmarked region_words before marks index unset))
