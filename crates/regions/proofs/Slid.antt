-- The heap after sliding: what one object more changes, and that there is exactly one such heap.
use Rattle.std.proofs.Common.{◌≡◌, ◌≢◌, ℕ, ◌+◌, ◌-◌, ◌<◌, ◌≤◌, ◌⊎◌, ◌&&◌, ◌==◌, inl, inr, nat_le, nat_lt, true, false, zero, suc, cond, ⊎_elim, refl, sym, ap, ◌∙◌, subst, arith}
use Rattle.std.proofs.lemmas.Bool.{cond-true, cond-false, cases_eq, cases_Bool, and_parts, and_cases, leb-true, ltb-true, leb-false, ltb-false}
use Rattle.heap_words.specs.Encoding.{refs_in, plain_header}
use Rattle.regions.specs.Places.{LieApart}
use Rattle.regions.specs.Slide.{placed_word, slid_word, IsSlidTo, is_covered, slid, PlacesApart}
use Rattle.regions.proofs.Placed.{covers}

-- a word of an object in its new place depends on two words of the heap
pub slid_word-same : (renew heap other_heap : ℕ → ℕ) (address other_address index : ℕ) → heap (address + 1) ≡ other_heap (other_address + 1) → heap (address + index) ≡ other_heap (other_address + index) → slid_word renew heap address index ≡ slid_word renew other_heap other_address index
slid_word-same renew heap other_heap address second_address index shapes same_words =
    ap (λ shape. placed_word renew (refs_in shape) index (heap (address + index))) shapes ∙ ap (placed_word renew (refs_in (other_heap (second_address + 1))) index) same_words

-- one step of the recursion
pub slid_next : (place kept renew before : ℕ → ℕ) (address target : ℕ)
    → slid place kept renew before (suc address) target ≡ cond (is_covered place kept address target) (slid_word renew before address (target - place address)) (slid place kept renew before address target)
unfolding slid
slid_next place kept renew before address target = refl

pub slid_none : (place kept renew before : ℕ → ℕ) (target : ℕ) → slid place kept renew before 0 target ≡ before target
unfolding slid
slid_none place kept renew before target = refl

-- an address is covered by the new place of an object, at an index, or it is not
pub covered_here : (place kept : ℕ → ℕ) (address target : ℕ)
    → ((is_covered place kept address target ≡ true) × (place address ≤ target) × (target < place address + kept address))
    ⊎ ((is_covered place kept address target ≡ false) × ((target < place address) ⊎ (place address + kept address ≤ target)))
covered_here place kept address target = ⊎_elim
    (λ (met : is_covered place kept address target ≡ true).
    let both_tests = and_parts (nat_le (place address) target) (nat_lt target (place address + kept address)) met in
    inl (met, leb-true (place address) target both_tests.0, ltb-true target (place address + kept address) both_tests.1))
    (λ (unmet : is_covered place kept address target ≡ false). inr (
      unmet,
      ⊎_elim
          (λ (target_low : nat_le (place address) target ≡ false). inl (leb-false (place address) target target_low))
          (λ (target_high : nat_lt target (place address + kept address) ≡ false). inr (ltb-false target (place address + kept address) target_high))
          (and_cases (nat_le (place address) target) (nat_lt target (place address + kept address)) unmet),
    ))
    (cases_Bool (is_covered place kept address target))

-- An address is a word of a new place of an object that begins below an end, or of none.
abbrev pub IsWordOf : (end : ℕ) (place kept : ℕ → ℕ) (target : ℕ) → Type 0
IsWordOf end place kept target = (address : ℕ) × (index : ℕ) × (address < end) × (index < kept address) × (target ≡ place address + index)

pub covered_or_not : (end : ℕ) (place kept : ℕ → ℕ) (target : ℕ) → IsWordOf end place kept target ⊎ (IsWordOf end place kept target → ⊥)
covered_or_not zero place kept target = inr (λ word. omega (arith, word.2))
covered_or_not (suc end) place kept target = ⊎_elim
    (λ (old : IsWordOf end place kept target). inl (old.0, old.1, omega (arith, old.2), old.3, old.4))
    (λ (no_word : IsWordOf end place kept target → ⊥). ⊎_elim
    (λ (covered : (is_covered place kept end target ≡ true) × (place end ≤ target) × (target < place end + kept end)).
    inl (end, target - place end, omega arith, omega (arith, covered.1, covered.2), omega (arith, covered.1)))
    (λ (uncovered : (is_covered place kept end target ≡ false) × ((target < place end) ⊎ (place end + kept end ≤ target))).
    inr (λ word. ⊎_elim
    (λ (end_address : word.0 ≡ end).
    let same_place : place word.0 ≡ place end = ap place end_address in
    let same_size : kept word.0 ≡ kept end = ap kept end_address in
    ⊎_elim
    (λ (target_low : target < place end). omega (arith, target_low, same_place, word.4))
    (λ (target_high : place end + kept end ≤ target). omega (arith, target_high, same_place, same_size, word.4, word.3))
    uncovered.1)
    (λ (earlier_address : word.0 ≢ end). no_word (word.0, word.1, omega (arith, word.2, earlier_address), word.3, word.4))
    (cases_eq word.0 end)))
    (covered_here place kept end target))
    (covered_or_not end place kept target)

-- what lies at a kept address or behind it has not been overwritten when a sweep that moves objects down comes to it
pub intact : (region_words : ℕ) (place kept renew before : ℕ → ℕ) → LieApart region_words kept → ((address : ℕ) → 0 < kept address → place address ≤ address) → (end : ℕ) (now : ℕ → ℕ) → IsSlidTo end region_words place kept renew before now
    → (address target : ℕ) → end ≤ address → 0 < kept address → address ≤ target → now target ≡ before target
intact region_words place kept renew before lying_apart down end now slid_to address target at_most some_kept target_above =
    slid_to.others target (omega (arith, lying_apart.above address some_kept, target_above)) (λ earlier_address index address_below index_inside same_target.
    let begins : 0 < kept earlier_address = omega (arith, index_inside) in
    let ends = lying_apart.apart earlier_address address begins some_kept (omega (arith, address_below, at_most)) in
    omega (arith, same_target, index_inside, down earlier_address begins, ends, target_above))

-- the same, over fewer addresses
pub slid_from : (least first end : ℕ) (place kept renew before after : ℕ → ℕ) → least ≤ first → IsSlidTo end least place kept renew before after → IsSlidTo end first place kept renew before after
slid_from least first end place kept renew before after first_above slid_to = record {
  moved = slid_to.moved;
  others = λ target target_above. slid_to.others target (omega (arith, first_above, target_above));
}

module _ (place kept renew before : ℕ → ℕ) (places_apart : PlacesApart place kept) where
  -- one object more
  pub slid_more : (first end : ℕ) (now after : ℕ → ℕ) → ((kept_address : ℕ) → 0 < kept kept_address → first ≤ place kept_address) → IsSlidTo end first place kept renew before now
      → ((index : ℕ) → index < kept end → after (place end + index) ≡ slid_word renew before end index)
      → ((target : ℕ) → first ≤ target → (target < place end) ⊎ (place end + kept end ≤ target) → after target ≡ now target)
      → IsSlidTo (suc end) first place kept renew before after
  slid_more first end now after places_above slid_to words_moved others_stay = record {
    moved = λ kept_address index address_below index_inside. ⊎_elim
        (λ (same_address : end ≡ kept_address). subst (λ address. index < kept address → after (place address + index) ≡ slid_word renew before address index) same_address (words_moved index) index_inside)
        (λ (other_address : end ≢ kept_address).
        let outside : (place kept_address + index < place end) ⊎ (place end + kept end ≤ place kept_address + index) = ⊎_elim
        (λ (covered : (is_covered place kept end (place kept_address + index) ≡ true) × (place end ≤ place kept_address + index) × (place kept_address + index < place end + kept end)).
        absurd (other_address (places_apart end kept_address (place kept_address + index) covered.0 (covers place kept kept_address (place kept_address + index) (omega arith) (omega (arith, index_inside))))))
        (λ (uncovered : (is_covered place kept end (place kept_address + index) ≡ false) × ((place kept_address + index < place end) ⊎ (place end + kept end ≤ place kept_address + index))). uncovered.1)
        (covered_here place kept end (place kept_address + index)) in
        others_stay (place kept_address + index) (omega (arith, places_above kept_address (omega (arith, index_inside)))) outside ∙ slid_to.moved kept_address index (omega (arith, address_below, other_address)) index_inside)
        (cases_eq end kept_address);
    others = λ target target_above no_word.
        let outside : (target < place end) ⊎ (place end + kept end ≤ target) = ⊎_elim
        (λ (covered : (is_covered place kept end target ≡ true) × (place end ≤ target) × (target < place end + kept end)).
        absurd (no_word end (target - place end) (omega arith) (omega (arith, covered.1, covered.2)) (omega (arith, covered.1))))
        (λ (uncovered : (is_covered place kept end target ≡ false) × ((target < place end) ⊎ (place end + kept end ≤ target))). uncovered.1)
        (covered_here place kept end target) in
        others_stay target target_above outside ∙ slid_to.others target target_above (λ kept_address offset address_below index_inside. no_word kept_address offset (omega (arith, address_below)) index_inside);
  }

  -- an address at which nothing is kept
  pub slid_same : (first end : ℕ) (now : ℕ → ℕ) → ((address : ℕ) → 0 < kept address → first ≤ place address) → IsSlidTo end first place kept renew before now → kept end ≡ 0 → IsSlidTo (suc end) first place kept renew before now
  slid_same first end now places_above slid_to none_kept = slid_more first end now now places_above slid_to (λ index inside. absurd (omega (arith, none_kept, inside))) (λ target target_above outside. refl)

  -- the function is a heap after sliding
  slid_from_zero : (end : ℕ) → IsSlidTo end 0 place kept renew before (slid place kept renew before end)
  slid_from_zero zero = record { moved = λ object_address index address_below index_inside. absurd (omega (arith, address_below)); others = λ target target_above no_word. slid_none place kept renew before target }
  slid_from_zero (suc address) =
      slid_more 0 address (slid place kept renew before address) (slid place kept renew before (suc address)) (λ object_address some_kept. omega arith) (slid_from_zero address)
      (λ index index_inside.
      let same_index : place address + index - place address ≡ index = omega arith in
      slid_next place kept renew before address (place address + index)
      ∙ cond-true (is_covered place kept address (place address + index)) (slid_word renew before address (place address + index - place address)) (slid place kept renew before address (place address + index))
      (covers place kept address (place address + index) (omega arith) (omega (arith, index_inside)))
      ∙ ap (slid_word renew before address) same_index)
      (λ target target_above outside. ⊎_elim
      (λ (covered : (is_covered place kept address target ≡ true) × (place address ≤ target) × (target < place address + kept address)).
      absurd (⊎_elim
      (λ (target_low : target < place address). omega (arith, target_low, covered.1))
      (λ (target_high : place address + kept address ≤ target). omega (arith, target_high, covered.2))
      outside))
      (λ (uncovered : (is_covered place kept address target ≡ false) × ((target < place address) ⊎ (place address + kept address ≤ target))).
      slid_next place kept renew before address target
      ∙ cond-false (is_covered place kept address target) (slid_word renew before address (target - place address)) (slid place kept renew before address target) uncovered.0)
      (covered_here place kept address target))

  pub slid_is : (first end : ℕ) → IsSlidTo end first place kept renew before (slid place kept renew before end)
  slid_is first end = slid_from 0 first end place kept renew before (slid place kept renew before end) (omega arith) (slid_from_zero end)

  -- and the only one, over the addresses of the heap
  pub slid_only : (first end : ℕ) (after : ℕ → ℕ) → IsSlidTo end first place kept renew before after → (target : ℕ) → first ≤ target → after target ≡ slid place kept renew before end target
  slid_only first end after slid_to target target_above = ⊎_elim
      (λ (word : IsWordOf end place kept target).
      ap after word.4 ∙ slid_to.moved word.0 word.1 word.2 word.3
      ∙ sym (ap (slid place kept renew before end) word.4 ∙ (slid_is first end).moved word.0 word.1 word.2 word.3))
      (λ (no_word : IsWordOf end place kept target → ⊥).
      slid_to.others target target_above (λ address index address_below index_inside same_target. no_word (address, index, address_below, index_inside, same_target))
      ∙ sym ((slid_is first end).others target target_above (λ address index address_below index_inside same_target. no_word (address, index, address_below, index_inside, same_target))))
      (covered_or_not end place kept target)

-- places matter only where something is kept
pub placed_alike : (first end : ℕ) (place other_place kept renew before after : ℕ → ℕ) → ((address : ℕ) → 0 < kept address → place address ≡ other_place address)
    → IsSlidTo end first place kept renew before after → IsSlidTo end first other_place kept renew before after
placed_alike first end place other_place kept renew before after alike slid_to = record {
  moved = λ address index address_below inside. ap (λ given_place. after (given_place + index)) (sym (alike address (omega (arith, inside)))) ∙ slid_to.moved address index address_below inside;
  others = λ target target_above no_word. slid_to.others target target_above (λ address index address_below inside same_target. no_word address index address_below inside (same_target ∙ ap (λ given_place. given_place + index) (alike address (omega (arith, inside)))));
}

module _ (place kept renew before : ℕ → ℕ) where
  -- which way references are renewed matters only at the references of kept objects
  pub renewed_alike : (other_renew : ℕ → ℕ) (first end : ℕ) (after : ℕ → ℕ) → ((address word_index : ℕ) → 0 < kept address → word_index < refs_in (before (address + 1)) → renew (before (address + (3 + word_index))) ≡ other_renew (before (address + (3 + word_index))))
      → IsSlidTo end first place kept renew before after → IsSlidTo end first place kept other_renew before after
  renewed_alike other_renew first end after alike slid_to = record {
    moved = λ address word_index address_below inside. slid_to.moved address word_index address_below inside ∙ same_word address word_index (omega (arith, inside));
    others = slid_to.others;
  }
    where
      same_word : (address word_index : ℕ) → 0 < kept address → slid_word renew before address word_index ≡ slid_word other_renew before address word_index
      same_word address word_index some_kept = ap (λ word. cond (word_index == 0) plain_header word) (⊎_elim
          (λ (reference_index : (nat_le 3 word_index && nat_lt word_index (3 + refs_in (before (address + 1)))) ≡ true).
          let both_bounds = and_parts (nat_le 3 word_index) (nat_lt word_index (3 + refs_in (before (address + 1)))) reference_index in
          let index_above = leb-true 3 word_index both_bounds.0 in
          let index_few = ltb-true word_index (3 + refs_in (before (address + 1))) both_bounds.1 in
          let same_place : address + (3 + (word_index - 3)) ≡ address + word_index = omega (arith, index_above) in
          cond-true (nat_le 3 word_index && nat_lt word_index (3 + refs_in (before (address + 1)))) (renew (before (address + word_index))) (before (address + word_index)) reference_index
          ∙ subst (λ number. renew (before number) ≡ other_renew (before number)) same_place (alike address (word_index - 3) some_kept (omega (arith, index_above, index_few)))
          ∙ sym (cond-true (nat_le 3 word_index && nat_lt word_index (3 + refs_in (before (address + 1)))) (other_renew (before (address + word_index))) (before (address + word_index)) reference_index))
          (λ (other_index : (nat_le 3 word_index && nat_lt word_index (3 + refs_in (before (address + 1)))) ≡ false).
          cond-false (nat_le 3 word_index && nat_lt word_index (3 + refs_in (before (address + 1)))) (renew (before (address + word_index))) (before (address + word_index)) other_index
          ∙ sym (cond-false (nat_le 3 word_index && nat_lt word_index (3 + refs_in (before (address + 1)))) (other_renew (before (address + word_index))) (before (address + word_index)) other_index))
          (cases_Bool (nat_le 3 word_index && nat_lt word_index (3 + refs_in (before (address + 1))))))
