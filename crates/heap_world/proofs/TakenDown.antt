-- What taking addresses down keeps, and what it adds.
use Rattle.std.proofs.Common.{ℕ, ◌≡◌, ◌≢◌, ◌+◌, ◌-◌, ◌<◌, ◌≤◌, ◌⊎◌, ◌||◌, Bool, true, false, List, [], ◌∷◌, ◌++◌, length, get_or, set, nat_eq, ◌==◌, arith, refl, ap, sym, subst, ◌∙◌, inl, inr, length-append}
use Rattle.std.specs.List.{range_with_len, IsDistinct}
use Rattle.std.proofs.lemmas.List.{get_or-set_same, get_or-set_other, length-set, append_assoc, append-nil, get_or_append_left, get_or_at, get_or_default}
use Rattle.std.proofs.lemmas.List.FromFn.{length-range_with_len, get_or-range_with_len}
use Rattle.std.proofs.lemmas.List.Folds.{list_any-append, list_any_at}
use Rattle.std.proofs.lemmas.Map.Keys.{IsDistinct-prop, IsDistinct-push, IsDistinct-from_apart, apart_from_distinct}
use Rattle.std.proofs.lemmas.Map.Views.{Contains-from_any, exact_unsigned_eq}
use Rattle.std.proofs.lemmas.Map.Made.{length-le_from_is_member}
use mathlib.Core.Bool.{Bool-set}
use Rattle.std.proofs.Math.Bridge.{le_prop}
use Rattle.std.proofs.lemmas.Bool.{eqb-true, eqb-false, eq-eqb, ne_eqb, or_cases, or_left, or_right, cases_eq, cond_both, or_parts, false≢true, false_from_ne_true}
use Rattle.std.proofs.lemmas.Cmp.{nat_eq_equiv}
use Rattle.shen_graph.proofs.Bools.{or_false}
use Rattle.heap_world.specs.Walk.{has, IsMarked, with_address, with_addresses}

pub has-push : (order : List ℕ) (address asked : ℕ) → has (order ++ address ∷ []) asked ≡ (has order asked || nat_eq asked address)
has-push order address asked = list_any-append (nat_eq asked) order (address ∷ []) ∙ ap (λ is_same. has order asked || is_same) (or_false (nat_eq asked address))

-- a range has each number in it
pub has-range : (first count asked : ℕ) → first ≤ asked → asked < first + count → has (range_with_len first count) asked ≡ true
has-range first count asked asked_past_first asked_below_end =
    let offset_below : asked - first < count = omega arith in
    let index_below : asked - first < length (range_with_len first count) = rw length-range_with_len offset_below in
    list_any_at (nat_eq asked) (range_with_len first count) (asked - first) 0 index_below
    (eq-eqb _ _ (let value_there : get_or (range_with_len first count) (asked - first) 0 ≡ first + (asked - first) = get_or-range_with_len first count (asked - first) 0 offset_below in omega arith))

-- an address that is not marked yet is not in the list
not_there : (first : ℕ) (marks : List Bool) (order : List ℕ) (address : ℕ) → IsMarked first marks order
    → first ≤ address → address < first + length marks → get_or marks (address - first) false ≡ false → has order address ≡ false
not_there first marks order address order_marked address_past_first address_below_end unset =
    let same_address : first + (address - first) ≡ address = omega arith in
    ap (has order) (sym same_address) ∙ sym (order_marked.flags (address - first) (omega arith)) ∙ unset

among_push : (first count : ℕ) (order : List ℕ) (address : ℕ) → first ≤ address → address < first + count
    → ((asked : ℕ) → has order asked ≡ true → (first ≤ asked) × (asked < first + count))
    → (asked : ℕ) → has (order ++ address ∷ []) asked ≡ true → (first ≤ asked) × (asked < first + count)
among_push first count order address address_past_first address_below_end order_inside asked asked_there =
    elim (or_cases (has order asked) (nat_eq asked address) (sym (has-push order address asked) ∙ asked_there)) [
      | inl old ↦ order_inside asked old
      | inr new ↦ (let same_address : asked ≡ address = eqb-true asked address new in (omega arith, omega arith))
    ]

-- where an address is not marked yet, the list has fewer addresses than there are flags
pub room_left : (first : ℕ) (marks : List Bool) (order : List ℕ) (address : ℕ) → IsMarked first marks order
    → first ≤ address → address < first + length marks → get_or marks (address - first) false ≡ false → length order < length marks
room_left first marks order address order_marked address_past_first address_below_end unset =
    let longer_order = order ++ address ∷ [] in
    let all_addresses = range_with_len first (length marks) in
    let few_longer : length longer_order ≤ length all_addresses =
    length-le_from_is_member nat_eq_equiv longer_order all_addresses
    (IsDistinct-push nat_eq_equiv order address order_marked.once (not_there first marks order address order_marked address_past_first address_below_end unset))
    (λ listed_address is_listed. let in_range = among_push first (length marks) order address address_past_first address_below_end order_marked.among listed_address is_listed in has-range first (length marks) listed_address in_range.0 in_range.1) in
    omega (arith, length-append order (address ∷ []), length-range_with_len first (length marks), few_longer)

flags_push : (first : ℕ) (marks : List Bool) (order : List ℕ) (address : ℕ) → IsMarked first marks order
    → first ≤ address → address < first + length marks → (index : ℕ) → index < length marks
    → get_or (set marks (address - first) true) index false ≡ has (order ++ address ∷ []) (first + index)
flags_push first marks order address order_marked address_past_first address_below_end index index_below =
    rw has-push (elim (cases_eq index (address - first)) [
      | inl same_index ↦ (let same_address : first + index ≡ address = omega arith in
          ap (λ place. get_or (set marks (address - first) true) place false) same_index ∙ get_or-set_same marks (address - first) true false (omega arith)
          ∙ sym (or_right (has order (first + index)) (nat_eq (first + index) address) (eq-eqb _ _ same_address)))
      | inr other_index ↦ (let other_address : first + index ≢ address = λ same_index. other_index (omega (arith, same_index)) in
          get_or-set_other marks (address - first) index true false other_index ∙ order_marked.flags index index_below
          ∙ sym (ap (λ is_same. has order (first + index) || is_same) (ne_eqb _ _ other_address) ∙ or_false (has order (first + index))))
    ])

-- the list has at most as many addresses as there are flags
pub few : (first : ℕ) (marks : List Bool) (order : List ℕ) → IsMarked first marks order → length order ≤ length marks
few first marks order order_marked =
    let all_addresses = range_with_len first (length marks) in
    let few_in_order : length order ≤ length all_addresses =
    length-le_from_is_member nat_eq_equiv order all_addresses order_marked.once
    (λ listed_address is_listed. has-range first (length marks) listed_address (order_marked.among listed_address is_listed).0 (order_marked.among listed_address is_listed).1) in
    omega (arith, length-range_with_len first (length marks))

-- an address more, which is marked
pub IsMarked-push : (first : ℕ) (marks : List Bool) (order : List ℕ) (address : ℕ) → IsMarked first marks order
    → first ≤ address → address < first + length marks → get_or marks (address - first) false ≡ false
    → IsMarked first (set marks (address - first) true) (order ++ address ∷ [])
IsMarked-push first marks order address order_marked address_past_first address_below_end unset = record {
  once = IsDistinct-push nat_eq_equiv order address order_marked.once (not_there first marks order address order_marked address_past_first address_below_end unset);
  among = λ listed_address known. rw length-set (among_push first (length marks) order address address_past_first address_below_end order_marked.among listed_address known);
  flags = λ index known. flags_push first marks order address order_marked address_past_first address_below_end index (rw length-set at known);
}

-- a list without its last address has no address twice where the whole has none, nor that last one
distinct_before : (order : List ℕ) (address : ℕ) → IsDistinct nat_eq (order ++ address ∷ []) → IsDistinct nat_eq order
distinct_before order address distinct = IsDistinct-from_apart nat_eq order (λ earlier later otherwise earlier_before later_below.
    let same_first : get_or (order ++ address ∷ []) earlier otherwise ≡ get_or order earlier otherwise = get_or_append_left order (address ∷ []) otherwise earlier (omega (arith, earlier_before, later_below)) in
    let same_second : get_or (order ++ address ∷ []) later otherwise ≡ get_or order later otherwise = get_or_append_left order (address ∷ []) otherwise later later_below in
    ap (λ x. nat_eq x (get_or order later otherwise)) (sym same_first) ∙ ap (nat_eq (get_or (order ++ address ∷ []) earlier otherwise)) (sym same_second)
    ∙ apart_from_distinct nat_eq (order ++ address ∷ []) earlier later otherwise distinct earlier_before (omega (arith, later_below, length-append order (address ∷ []))))

last_apart : (order : List ℕ) (address : ℕ) → IsDistinct nat_eq (order ++ address ∷ []) → has order address ≡ false
last_apart order address distinct = false_from_ne_true (has order address) (λ address_there.
    let found_place = Contains-from_any exact_unsigned_eq address order address_there in
    let found_address : get_or order found_place.0 0 ≡ address = get_or_default order found_place.0 0 address found_place.1 ∙ found_place.2 in
    let longer_has : get_or (order ++ address ∷ []) found_place.0 0 ≡ address = get_or_append_left order (address ∷ []) 0 found_place.0 found_place.1 ∙ found_address in
    let last_address : get_or (order ++ address ∷ []) (length order) 0 ≡ address = get_or_at order address [] 0 (length order) refl in
    let last_differs = apart_from_distinct nat_eq (order ++ address ∷ []) found_place.0 (length order) 0 distinct found_place.1 (omega (arith, length-append order (address ∷ []))) in
    false≢true (sym last_differs ∙ eq-eqb _ _ (longer_has ∙ sym last_address)))

last_is : (order : List ℕ) (address : ℕ) → has (order ++ address ∷ []) address ≡ true
last_is order address = has-push order address address ∙ or_right (has order address) (nat_eq address address) (eq-eqb address address refl)

flags_pop : (first : ℕ) (marks : List Bool) (order : List ℕ) (address : ℕ) → IsMarked first marks (order ++ address ∷ [])
    → first ≤ address → address < first + length marks → (index : ℕ) → index < length marks
    → get_or (set marks (address - first) false) index false ≡ has order (first + index)
flags_pop first marks order address longer_marked address_past_first address_below_end index index_below =
    elim (cases_eq index (address - first)) [
      | inl same_index ↦ (let same_address : first + index ≡ address = omega (arith, same_index, address_past_first) in
          ap (λ place. get_or (set marks (address - first) false) place false) same_index ∙ get_or-set_same marks (address - first) false false (omega (arith, address_past_first, address_below_end))
          ∙ sym (ap (has order) same_address ∙ last_apart order address longer_marked.once))
      | inr other_index ↦ (let other_address : first + index ≢ address = λ same_index. other_index (omega (arith, same_index)) in
          get_or-set_other marks (address - first) index false false other_index ∙ longer_marked.flags index index_below ∙ has-push order address (first + index)
          ∙ ap (λ is_same. has order (first + index) || is_same) (ne_eqb _ _ other_address) ∙ or_false (has order (first + index)))
    ]

-- the last address of a list lies where there are flags
pub last_among : (first : ℕ) (marks : List Bool) (longer_order order : List ℕ) (address : ℕ) → longer_order ≡ order ++ address ∷ [] → IsMarked first marks longer_order
    → (first ≤ address) × (address < first + length marks)
last_among first marks longer_order order address same_order longer_marked = longer_marked.among address (ap (λ xs. has xs address) same_order ∙ last_is order address)

-- an address less, whose flag is taken away
pub IsMarked-pop : (first : ℕ) (marks : List Bool) (longer_order order : List ℕ) (address : ℕ) → longer_order ≡ order ++ address ∷ [] → IsMarked first marks longer_order
    → IsMarked first (set marks (address - first) false) order
IsMarked-pop first marks longer_order order address same_order marked_before =
    let longer_order_marked : IsMarked first marks (order ++ address ∷ []) = subst (IsMarked first marks) same_order marked_before in
    let address_inside = longer_order_marked.among address (last_is order address) in
    record {
      once = distinct_before order address longer_order_marked.once;
      among = λ listed_address known. rw length-set (longer_order_marked.among listed_address (has-push order address listed_address ∙ or_left (has order listed_address) (nat_eq listed_address address) known));
      flags = λ index known. flags_pop first marks order address longer_order_marked address_inside.0 address_inside.1 index (rw length-set at known);
    }

-- that flags and list say the same has one proof
pub IsMarked-prop : (first : ℕ) (marks : List Bool) (order : List ℕ) → IsProp (IsMarked first marks order)
IsMarked-prop first marks order first_marked second_marked = λ i. record {
  once = IsDistinct-prop nat_eq order first_marked.once second_marked.once i;
  among = λ listed_address known. let first_among = first_marked.among listed_address known in let second_among = second_marked.among listed_address known in (le_prop first_among.0 second_among.0 i, le_prop first_among.1 second_among.1 i);
  flags = λ index known. Bool-set _ _ (first_marked.flags index known) (second_marked.flags index known) i;
}

-- what was in the list stays in it
kept_one : (order : List ℕ) (address asked : ℕ) → has order asked ≡ true → has (with_address order address) asked ≡ true
kept_one order address asked asked_there =
    cond_both ((address == 0) || has order address) order (order ++ address ∷ []) (λ xs. has xs asked ≡ true) (λ _. asked_there)
    (λ _. has-push order address asked ∙ or_left _ _ asked_there)

pub kept : (order words : List ℕ) (asked : ℕ) → has order asked ≡ true → has (with_addresses order words) asked ≡ true
kept order [] asked asked_there = asked_there
kept order (address ∷ words) asked asked_there = kept (with_address order address) words asked (kept_one order address asked asked_there)

-- the list has each of the words that is not null
new_one : (order : List ℕ) (address : ℕ) → address ≢ 0 → has (with_address order address) address ≡ true
new_one order address not_null =
    cond_both ((address == 0) || has order address) order (order ++ address ∷ []) (λ xs. has xs address ≡ true)
    (λ is_listed. elim (or_cases (address == 0) (has order address) is_listed) [ inl is_zero ↦ absurd (not_null (eqb-true address 0 is_zero)) | inr old ↦ old ])
    (λ _. has-push order address address ∙ or_right (has order address) (nat_eq address address) (eq-eqb address address refl))

pub new : (order words : List ℕ) (asked : ℕ) → asked ≢ 0 → has words asked ≡ true → has (with_addresses order words) asked ≡ true
new order [] asked not_null asked_there = absurd (false≢true asked_there)
new order (address ∷ words) asked not_null asked_there =
    elim (or_cases (nat_eq asked address) (has words asked) asked_there) [
      | inl first_word ↦ kept (with_address order address) words asked
          (let same_address : address ≡ asked = sym (eqb-true asked address first_word) in ap (λ added. has (with_address order added) asked) same_address ∙ new_one order asked not_null)
      | inr rest ↦ new (with_address order address) words asked not_null rest
    ]

-- nothing else came into the list
only_one : (order : List ℕ) (address asked : ℕ) → has (with_address order address) asked ≡ true → (has order asked ≡ true) ⊎ ((asked ≢ 0) × (asked ≡ address))
only_one order address asked =
    cond_both ((address == 0) || has order address) order (order ++ address ∷ [])
    (λ xs. has xs asked ≡ true → (has order asked ≡ true) ⊎ ((asked ≢ 0) × (asked ≡ address)))
    (λ _ is_listed. inl is_listed)
    (λ is_new is_listed. elim (or_cases (has order asked) (nat_eq asked address) (sym (has-push order address asked) ∙ is_listed)) [
      | inl old ↦ inl old
      | inr asked_last ↦ (let same_address : asked ≡ address = eqb-true asked address asked_last in
          inr ((λ is_zero. eqb-false address 0 (or_parts (address == 0) (has order address) is_new).0 (sym same_address ∙ is_zero), same_address)))
    ])

pub only : (order words : List ℕ) (asked : ℕ) → has (with_addresses order words) asked ≡ true
    → (has order asked ≡ true) ⊎ ((asked ≢ 0) × (has words asked ≡ true))
only order [] asked asked_there = inl asked_there
only order (address ∷ words) asked asked_there =
    elim (only (with_address order address) words asked asked_there) [
      | inl among_first ↦ elim (only_one order address asked among_first)
          [ inl old ↦ inl old | inr asked_new ↦ inr (asked_new.0, or_left (nat_eq asked address) (has words asked) (eq-eqb asked address asked_new.1)) ]
      | inr rest ↦ inr (rest.0, or_right (nat_eq asked address) (has words asked) rest.1)
    ]

-- what was in the list stays where it is
prefix_one : (order : List ℕ) (address : ℕ) → (added : List ℕ) × (with_address order address ≡ order ++ added)
prefix_one order address =
    cond_both ((address == 0) || has order address) order (order ++ address ∷ []) (λ xs. (added : List ℕ) × (xs ≡ order ++ added))
    (λ _. ([], sym (append-nil order))) (λ _. (address ∷ [], refl))

pub prefix : (order words : List ℕ) → (added : List ℕ) × (with_addresses order words ≡ order ++ added)
prefix order [] = ([], sym (append-nil order))
prefix order (address ∷ words) =
    let first_added = prefix_one order address in
    let later_prefix = prefix (with_address order address) words in
    (first_added.0 ++ later_prefix.0, later_prefix.1 ∙ ap (λ xs. xs ++ later_prefix.0) first_added.1 ∙ append_assoc order first_added.0 later_prefix.0)

-- one word more
pub with_addresses-push : (order words : List ℕ) (address : ℕ) → with_addresses order (words ++ address ∷ []) ≡ with_address (with_addresses order words) address
with_addresses-push order [] address = refl
with_addresses-push order (word ∷ words) address = with_addresses-push (with_address order word) words address

-- and many words more
pub with_addresses-append : (order words later_words : List ℕ) → with_addresses order (words ++ later_words) ≡ with_addresses (with_addresses order words) later_words
with_addresses-append order [] later_words = refl
with_addresses-append order (word ∷ words) later_words = with_addresses-append (with_address order word) words later_words

-- a word of one of two lists is one of both together
pub has-left : (xs ys : List ℕ) (word : ℕ) → has xs word ≡ true → has (xs ++ ys) word ≡ true
has-left xs ys word word_there = list_any-append (nat_eq word) xs ys ∙ or_left (has xs word) (has ys word) word_there

pub has-right : (xs ys : List ℕ) (word : ℕ) → has ys word ≡ true → has (xs ++ ys) word ≡ true
has-right xs ys word word_there = list_any-append (nat_eq word) xs ys ∙ or_right (has xs word) (has ys word) word_there
