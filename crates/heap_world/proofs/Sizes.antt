-- Objects that share no word take together at most the words that they lie in.
use Rattle.std.proofs.Common.{ℕ, suc, zero, ◌≡◌, ◌+◌, ◌<◌, ◌≤◌, true, false, List, [], ◌∷◌, ◌++◌, length, get_or, nat_eq, sum_by, flat_map, arith, refl, ap, sym, ◌∙◌, inl, inr}
use Rattle.std.specs.List.{IsDistinct, range_with_len}
use Rattle.std.proofs.lemmas.List.FromFn.{length-range_with_len}
use Rattle.std.proofs.lemmas.List.Folds.{list_any-append, list_any_at}
use Rattle.std.proofs.lemmas.List.Elements.{recursion_from_All}
use Rattle.std.proofs.lemmas.List.Concat.{length-flat_map}
use Rattle.std.proofs.lemmas.Map.Keys.{IsDistinct-cons, IsDistinct-tail, apart_from_distinct}
use Rattle.std.proofs.lemmas.Map.Made.{length-le_from_is_member}
use Rattle.std.proofs.lemmas.Bool.{eqb-true, eqb-false, eq-eqb, or_cases, or_left, or_right, or_from, cases_order, false≢true, false_from_ne_true}
use Rattle.std.proofs.lemmas.Map.Views.{Contains-from_any, exact_unsigned_eq}
use Rattle.std.proofs.lemmas.Cmp.{nat_eq_equiv}
use Rattle.heap_world.specs.Walk.{has}
use Rattle.heap_world.proofs.TakenDown.{has-range}

-- a number in a range is within its ends
range_from-has : (start count number : ℕ) → has (range_with_len start count) number ≡ true → (start ≤ number) × (number < start + count)
range_from-has start zero number in_range = absurd (false≢true in_range)
range_from-has start (suc count) number in_range =
    elim (or_cases (nat_eq number start) (has (range_with_len (start + 1) count) number) in_range) [
      | inl at_start ↦ (let is_start : number ≡ start = eqb-true number start at_start in (omega arith, omega arith))
      | inr rest ↦ (let rest_within = range_from-has (start + 1) count number rest in (omega arith, omega arith))
    ]

-- a number that is not in a list may be put before it
distinct_before : (number : ℕ) (xs : List ℕ) → has xs number ≡ false → IsDistinct nat_eq xs → IsDistinct nat_eq (number ∷ xs)
distinct_before number xs not_in distinct =
    IsDistinct-cons nat_eq number xs
    (recursion_from_All (λ y. nat_eq number y ≡ false) xs
    (λ index default_number index_below. false_from_ne_true _ (λ same_number. false≢true (sym not_in ∙ list_any_at (nat_eq number) xs index default_number index_below same_number)))) distinct

-- a range before a list that has none of its numbers
distinct_range : (start count : ℕ) (xs : List ℕ) → ((number : ℕ) → start ≤ number → number < start + count → has xs number ≡ false) → IsDistinct nat_eq xs
    → IsDistinct nat_eq (range_with_len start count ++ xs)
distinct_range start zero xs none_in distinct = distinct
distinct_range start (suc count) xs none_in distinct =
    distinct_before start (range_with_len (start + 1) count ++ xs)
    (list_any-append (nat_eq start) (range_with_len (start + 1) count) xs
    ∙ or_from _ _
    (false_from_ne_true _ (λ start_in. let start_within = range_from-has (start + 1) count start start_in in absurd (omega arith)))
    (none_in start (omega arith) (omega arith)))
    (distinct_range (start + 1) count xs (λ number low high. none_in number (omega arith) (omega arith)) distinct)

-- the words of all objects, where f gives the size of the object at an address
abbrev pub words_of : (ℕ → ℕ) → List ℕ → List ℕ
words_of size objects = flat_map (λ object. range_with_len object (size object)) objects

-- a word of an object lies within one of them
object_from-word : (size : ℕ → ℕ) (objects : List ℕ) (word : ℕ) → has (words_of size objects) word ≡ true
    → (address : ℕ) × (has objects address ≡ true) × (address ≤ word) × (word < address + size address)
object_from-word size [] word word_in = absurd (false≢true word_in)
object_from-word size (object ∷ objects) word word_in =
    elim (or_cases (has (range_with_len object (size object)) word) (has (words_of size objects) word)
    (sym (list_any-append (nat_eq word) (range_with_len object (size object)) (words_of size objects)) ∙ word_in)) [
      | inl in_first ↦ (let word_place = range_from-has object (size object) word in_first in (object, or_left (nat_eq object object) (has objects object) (eq-eqb object object refl), word_place.0, word_place.1))
      | inr rest ↦ (let word_place = object_from-word size objects word rest in (word_place.0, or_right (nat_eq word_place.0 object) (has objects word_place.0) word_place.1, word_place.2, word_place.3))
    ]

-- of two objects the one that begins first ends before the other
abbrev pub AreApart : (ℕ → ℕ) → List ℕ → Type 0
AreApart size objects = (first_object second_object : ℕ) → has objects first_object ≡ true → has objects second_object ≡ true → first_object < second_object → first_object + size first_object ≤ second_object

twice : (number : ℕ) (xs : List ℕ) → IsDistinct nat_eq (number ∷ xs) → has xs number ≡ true → ⊥
twice number xs distinct in_rest =
    let number_there = Contains-from_any exact_unsigned_eq number xs in_rest in
    eqb-false number (get_or xs number_there.0 number) (apart_from_distinct nat_eq (number ∷ xs) 0 (suc number_there.0) number distinct (omega arith) (omega (arith, number_there.1))) (sym number_there.2)

none_of_first : (size : ℕ → ℕ) (object : ℕ) (objects : List ℕ) → IsDistinct nat_eq (object ∷ objects) → AreApart size (object ∷ objects)
    → (word : ℕ) → object ≤ word → word < object + size object → has (words_of size objects) word ≡ false
none_of_first size object objects distinct all_apart word object_before word_inside =
    false_from_ne_true _ (λ word_in.
    let owner = object_from-word size objects word word_in in
    let has_first : has (object ∷ objects) object ≡ true = or_left (nat_eq object object) (has objects object) (eq-eqb object object refl) in
    let has_owner : has (object ∷ objects) owner.0 ≡ true = or_right (nat_eq owner.0 object) (has objects owner.0) owner.1 in
    elim (cases_order object owner.0) [
      | inl is_first ↦ twice object objects distinct (ap (has objects) is_first ∙ owner.1)
      | inr not_first ↦ elim not_first [
        | inl before ↦ absurd (omega (arith, all_apart object owner.0 has_first has_owner before))
        | inr after ↦ absurd (omega (arith, all_apart owner.0 object has_owner has_first after))
      ]
    ])

distinct_words : (size : ℕ → ℕ) (objects : List ℕ) → IsDistinct nat_eq objects → AreApart size objects → IsDistinct nat_eq (words_of size objects)
distinct_words size [] distinct all_apart = distinct
distinct_words size (object ∷ objects) distinct all_apart =
    distinct_range object (size object) (words_of size objects) (none_of_first size object objects distinct all_apart)
    (distinct_words size objects (IsDistinct-tail nat_eq object objects distinct)
    (λ first_object second_object first_in second_in. all_apart first_object second_object (or_right (nat_eq first_object object) (has objects first_object) first_in) (or_right (nat_eq second_object object) (has objects second_object) second_in)))

-- functions that agree everywhere are one
pub same_functions : {A B : Type 0} (f h : A → B) → ((x : A) → f x ≡ h x) → f ≡ h
same_functions f h agree = λ i x. agree x i

sum_of_words : (size : ℕ → ℕ) (objects : List ℕ) → length (words_of size objects) ≡ sum_by size objects
sum_of_words size objects = length-flat_map (λ object. range_with_len object (size object)) objects
    ∙ ap (λ measure. sum_by measure objects) (same_functions (λ object. length (range_with_len object (size object))) size (λ object. length-range_with_len object (size object)))

pub sizes_fit : (size : ℕ → ℕ) (objects : List ℕ) (start count : ℕ) → IsDistinct nat_eq objects → AreApart size objects
    → ((object : ℕ) → has objects object ≡ true → start ≤ object) → ((object : ℕ) → has objects object ≡ true → object + size object ≤ start + count)
    → sum_by size objects ≤ count
sizes_fit size objects start count distinct all_apart all_above all_below =
    let whole_range = range_with_len start count in
    let few_words : length (words_of size objects) ≤ length whole_range =
    length-le_from_is_member nat_eq_equiv (words_of size objects) whole_range (distinct_words size objects distinct all_apart)
    (λ word covered. let owner = object_from-word size objects word covered in
    has-range start count word (omega (arith, all_above owner.0 owner.1)) (omega (arith, all_below owner.0 owner.1))) in
    omega (arith, length-range_with_len start count, sum_of_words size objects)
