-- What sliding asks of a heap that is written out, by a test that computes.
use Rattle.std.proofs.Common.{◌≡◌, ℕ, ◌+◌, ◌-◌, ◌%◌, ◌^◌, ◌<◌, ◌≤◌, ◌==◌, ◌&&◌, ◌||◌, Bool, true, false, not, nat_le, nat_lt, cond, List, length, get_or, sym, ap, ◌∙◌, ⊎_elim, arith}
use Rattle.std.proofs.lemmas.List.{get_or_past}
use Rattle.std.proofs.lemmas.Bool.{cond-true, cond-false, not-true, cases_Bool, cases_lt, and_from, or_cases, eqb-true, and_parts, leb-true, ltb-true, lt-ltb, agree_below, agree_below_at, true≢false}
use Rattle.heap_words.specs.Encoding.{object_words, refs_in, is_forwarded, forwardee_in}
use Rattle.regions.specs.Table.{kept_of, word_of, now_of, IsMarkedHeap, LeadsToKept, CanCompact}
use Rattle.regions.proofs.Flags.{kept_marked, kept_unmarked, kept_below}

-- the words of the object at an index
abbrev words : List ℕ → ℕ → ℕ
words heap address = object_words (get_or heap (address + 1) 0)

-- a marked object lies within its region and within the heap
abbrev fits : ℕ → List ℕ → List Bool → ℕ → Bool
fits region_words heap marks index = cond (get_or marks index false) (nat_le ((region_words + index) % region_words + words heap index) region_words && nat_le (index + words heap index) (length heap)) true

-- a marked object ends before another behind it
abbrev ends_before : List ℕ → List Bool → ℕ → ℕ → Bool
ends_before heap marks address index = cond (get_or marks address false && (get_or marks index false && nat_lt address index)) (nat_le (address + words heap address) index) true

abbrev yes : ℕ → Bool
yes index = true

-- a kept address has a marked index
marked_index : (region_words : ℕ) (heap : List ℕ) (marks : List Bool) (address : ℕ) → 0 < kept_of region_words heap marks address
    → (region_words ≤ address) × (get_or marks (address - region_words) false ≡ true) × (address - region_words < length marks) × (kept_of region_words heap marks address ≡ words heap (address - region_words))
marked_index region_words heap marks address some_kept = ⊎_elim
    (λ (address_below : address < region_words). absurd (omega (arith, kept_below region_words heap marks address address_below, some_kept)))
    (λ (address_above : region_words ≤ address).
    let same_address : region_words + (address - region_words) ≡ address = omega (arith, address_above) in
    let same_kept : kept_of region_words heap marks (region_words + (address - region_words)) ≡ kept_of region_words heap marks address = ap (kept_of region_words heap marks) same_address in
    ⊎_elim
    (λ (index_marked : get_or marks (address - region_words) false ≡ true). (
      address_above,
      index_marked,
      ⊎_elim
          (λ (index_inside : address - region_words < length marks). index_inside)
          (λ (past_marks : length marks ≤ address - region_words). absurd (true≢false (sym index_marked ∙ get_or_past marks (address - region_words) false past_marks)))
          (cases_lt (address - region_words) (length marks)),
      sym same_kept ∙ kept_marked region_words heap marks (address - region_words) index_marked,
    ))
    (λ (unset : get_or marks (address - region_words) false ≡ false). absurd (omega (arith, same_kept, some_kept, kept_unmarked region_words heap marks (address - region_words) unset)))
    (cases_Bool (get_or marks (address - region_words) false)))
    (cases_lt address region_words)

-- a heap that passes the tests is as sliding asks
pub marked_if : (region_words : ℕ) (heap : List ℕ) (marks : List Bool) → 0 < region_words → length marks ≡ length heap → region_words + length heap ≤ 2 ^ 32
    → agree_below (fits region_words heap marks) yes (length marks) ≡ true
    → agree_below (λ place. agree_below (ends_before heap marks place) yes (length marks)) yes (length marks) ≡ true
    → IsMarkedHeap region_words heap marks
marked_if region_words heap marks some_words flags heap_small all_fit all_end = record {
  apart = (record {
    some = some_words;
    above = λ object_address begins. (marked_index region_words heap marks object_address begins).0;
    within = λ object_address begins.
        let index_found = marked_index region_words heap marks object_address begins in
        let object_fits = fitting object_address index_found.1 index_found.2 in
        let same_address : region_words + (object_address - region_words) ≡ object_address = omega (arith, index_found.0) in
        let same_rest : (region_words + (object_address - region_words)) % region_words ≡ object_address % region_words = ap (λ number. number % region_words) same_address in
        omega (arith, object_fits.0, same_rest, index_found.3);
    apart = λ object_address later_address begins_a begins_b in_order.
        let index_found = marked_index region_words heap marks object_address begins_a in
        let found_behind = marked_index region_words heap marks later_address begins_b in
        let test : nat_lt (object_address - region_words) (later_address - region_words) ≡ true = lt-ltb (object_address - region_words) (later_address - region_words) (omega (arith, in_order, index_found.0)) in
        let row = agree_below_at (λ place. agree_below (ends_before heap marks place) yes (length marks)) yes (length marks) (object_address - region_words) all_end index_found.2 in
        let cell = agree_below_at (ends_before heap marks (object_address - region_words)) yes (length marks) (later_address - region_words) row found_behind.2 in
        let pair = and_from (get_or marks (object_address - region_words) false) (get_or marks (later_address - region_words) false && nat_lt (object_address - region_words) (later_address - region_words)) index_found.1
        (and_from (get_or marks (later_address - region_words) false) (nat_lt (object_address - region_words) (later_address - region_words)) found_behind.1 test) in
        let ends = leb-true (object_address - region_words + words heap (object_address - region_words)) (later_address - region_words)
        (sym (cond-true (get_or marks (object_address - region_words) false && (get_or marks (later_address - region_words) false && nat_lt (object_address - region_words) (later_address - region_words))) (nat_le (object_address - region_words + words heap (object_address - region_words)) (later_address - region_words)) true pair) ∙ cell) in
        omega (arith, ends, index_found.0, found_behind.0, index_found.3);
  });
  flags = flags;
  inside = λ object_address begins.
      let index_found = marked_index region_words heap marks object_address begins in
      let object_fits = fitting object_address index_found.1 index_found.2 in
      omega (arith, object_fits.1, index_found.0, index_found.3);
  small = heap_small;
}
  where
    fitting : (same_address : ℕ) → get_or marks (same_address - region_words) false ≡ true → same_address - region_words < length marks
        → ((region_words + (same_address - region_words)) % region_words + words heap (same_address - region_words) ≤ region_words) × (same_address - region_words + words heap (same_address - region_words) ≤ length heap)
    fitting same_address index_marked index_inside =
        let index = same_address - region_words in
        let row = agree_below_at (fits region_words heap marks) yes (length marks) index all_fit index_inside in
        let halves = and_parts (nat_le ((region_words + index) % region_words + words heap index) region_words) (nat_le (index + words heap index) (length heap))
        (sym (cond-true (get_or marks index false) (nat_le ((region_words + index) % region_words + words heap index) region_words && nat_le (index + words heap index) (length heap)) true index_marked) ∙ row) in
        (leb-true ((region_words + index) % region_words + words heap index) region_words halves.0, leb-true (index + words heap index) (length heap) halves.1)

-- a marked object has not moved, and its references are null or lead to marked objects
abbrev own : List ℕ → List Bool → ℕ → Bool
own heap marks index = cond (get_or marks index false) (not (is_forwarded (get_or heap index 0))) true

abbrev leads : ℕ → List ℕ → List Bool → ℕ → Bool
leads region_words heap marks word =
    (word == 0) || ((nat_le region_words word && nat_lt word (region_words + length heap)) && (nat_le region_words (now_of region_words heap word) && get_or marks (now_of region_words heap word - region_words) false))

abbrev all_lead : ℕ → List ℕ → List Bool → ℕ → Bool
all_lead region_words heap marks index = cond (get_or marks index false) (agree_below (λ field. leads region_words heap marks (get_or heap (index + (3 + field)) 0)) yes (refs_in (get_or heap (index + 1) 0))) true

-- a word that passes the test leads to a kept object
leads_if : (region_words : ℕ) (heap : List ℕ) (marks : List Bool) (word : ℕ) → leads region_words heap marks word ≡ true → LeadsToKept region_words heap marks word
leads_if region_words heap marks word test not_null = ⊎_elim
    (λ (null : (word == 0) ≡ true). absurd (not_null (eqb-true word 0 null)))
    (λ (rest : ((nat_le region_words word && nat_lt word (region_words + length heap)) && (nat_le region_words (now_of region_words heap word) && get_or marks (now_of region_words heap word - region_words) false)) ≡ true).
    let halves = and_parts (nat_le region_words word && nat_lt word (region_words + length heap)) (nat_le region_words (now_of region_words heap word) && get_or marks (now_of region_words heap word - region_words) false) rest in
    let range = and_parts (nat_le region_words word) (nat_lt word (region_words + length heap)) halves.0 in
    let copy = and_parts (nat_le region_words (now_of region_words heap word)) (get_or marks (now_of region_words heap word - region_words) false) halves.1 in
    let copy_above = leb-true region_words (now_of region_words heap word) copy.0 in
    let same_address : region_words + (now_of region_words heap word - region_words) ≡ now_of region_words heap word = omega (arith, copy_above) in
    let same_size : kept_of region_words heap marks (region_words + (now_of region_words heap word - region_words)) ≡ words heap (now_of region_words heap word - region_words) = kept_marked region_words heap marks (now_of region_words heap word - region_words) copy.1 in
    let same_kept : kept_of region_words heap marks (region_words + (now_of region_words heap word - region_words)) ≡ kept_of region_words heap marks (now_of region_words heap word) = ap (kept_of region_words heap marks) same_address in
    (leb-true region_words word range.0, ltb-true word (region_words + length heap) range.1, omega (arith, same_size, same_kept)))
    (or_cases (word == 0) ((nat_le region_words word && nat_lt word (region_words + length heap)) && (nat_le region_words (now_of region_words heap word) && get_or marks (now_of region_words heap word - region_words) false)) test)

-- a heap that passes all tests can be packed
pub can_compact_if : (region_words : ℕ) (heap : List ℕ) (marks : List Bool) → IsMarkedHeap region_words heap marks
    → agree_below (own heap marks) yes (length marks) ≡ true → agree_below (all_lead region_words heap marks) yes (length marks) ≡ true → CanCompact region_words heap marks
can_compact_if region_words heap marks heap_marked marks_agree all_leading = record {
  marked = heap_marked;
  current = λ object_address some_kept.
      let index_found = marked_index region_words heap marks object_address some_kept in
      let row = agree_below_at (own heap marks) yes (length marks) (object_address - region_words) marks_agree index_found.2 in
      let not_forwarded : is_forwarded (get_or heap (object_address - region_words) 0) ≡ false =
      not-true (is_forwarded (get_or heap (object_address - region_words) 0)) (sym (cond-true (get_or marks (object_address - region_words) false) (not (is_forwarded (get_or heap (object_address - region_words) 0))) true index_found.1) ∙ row) in
      cond-false (is_forwarded (get_or heap (object_address - region_words) 0)) (forwardee_in (get_or heap (object_address - region_words) 0)) object_address not_forwarded;
  closed = λ object_address field some_kept few.
      let index_found = marked_index region_words heap marks object_address some_kept in
      let object_index = object_address - region_words in
      let row = agree_below_at (all_lead region_words heap marks) yes (length marks) object_index all_leading index_found.2 in
      let refs = sym (cond-true (get_or marks object_index false) (agree_below (λ any_field. leads region_words heap marks (get_or heap (object_index + (3 + any_field)) 0)) yes (refs_in (get_or heap (object_index + 1) 0))) true index_found.1) ∙ row in
      let shape_index : object_address + 1 - region_words ≡ object_index + 1 = omega (arith, index_found.0) in
      let same_shape : refs_in (word_of region_words heap (object_address + 1)) ≡ refs_in (get_or heap (object_index + 1) 0) = ap (λ index. refs_in (get_or heap index 0)) shape_index in
      let reference_leads = agree_below_at (λ any_field. leads region_words heap marks (get_or heap (object_index + (3 + any_field)) 0)) yes (refs_in (get_or heap (object_index + 1) 0)) field refs (omega (arith, few, same_shape)) in
      let word_index : object_address + (3 + field) - region_words ≡ object_index + (3 + field) = omega (arith, index_found.0) in
      let word : word_of region_words heap (object_address + (3 + field)) ≡ get_or heap (object_index + (3 + field)) 0 = ap (λ index. get_or heap index 0) word_index in
      leads_if region_words heap marks (word_of region_words heap (object_address + (3 + field))) (ap (leads region_words heap marks) word ∙ reference_leads);
}
