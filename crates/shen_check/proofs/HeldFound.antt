-- What is found in the pin slots of the threads is what is pinned.
use Rattle.std.proofs.Common.{◌≡◌, ◌⊎◌, ℕ, ◌+◌, ◌-◌, ◌<◌, ◌≤◌, Bool, true, false, List, [], ◌∷◌, ◌++◌, length, get_or, map, take, Option, Some, None, inl, inr, refl, sym, ap, subst, ◌∙◌, arith}
use Rattle.std.specs.Option.{option_map}
use Rattle.std.specs.Prelude.{Contains, unwrap_or, fold, ◌/◌, ◌==◌, if◌then◌else◌}
use Rattle.std.specs.Cmp.{IsEquivalence}
use Rattle.std.specs.List.{flat_map, range_with_len, list_any, IsDistinct}
use Rattle.std.proofs.lemmas.Bool.Decides.{Decides-eqb, nat_tests}
use Rattle.std.proofs.lemmas.List.Elements.{Contains-append_left, Contains-append_right, Contains-push, Contains-push_cases}
use Rattle.std.proofs.lemmas.List.{take_more, map-append}
use Rattle.std.proofs.lemmas.List.Sums.{fold-append, sum_by_push}
use Rattle.std.proofs.lemmas.List.FromFn.{get_or-range_with_len, length-range_with_len}
use Rattle.std.proofs.lemmas.Map.Keys.{IsDistinct-push}
use Rattle.std.proofs.lemmas.Map.Views.{Contains-from_any}
use Rattle.shen_graph.proofs.Lists.{contains_mapped}
use Rattle.shen_graph.specs.declared.name.Name.{Name}
use Rattle.shen_graph.specs.declared.pin.Pinned.{Pinned}
use Rattle.shen_graph.specs.Graph.{Graph, Object, Reference, same_name, named}
use Rattle.shen_graph.specs.Reach.{size}
use Rattle.shen_graph.specs.Crowd.{ArePinned, Held, ArePinnedRegions, PinnedRegions}
use Rattle.shen_graph.proofs.ReachLemmas.{Contains-cons_cases, Contains-nil, Contains-flat_map, Contains-from_flat_map, with_names-has, with_names-only, with_names-distinct}
use Rattle.shen_graph.specs.Found.{with_name}
use Rattle.shen_check.specs.JudgeState.{slot_held, pins_held, names_held, with_number, regions_held, words_held, HasPinsOf}

-- ---- the slots

abbrev held_by : Graph → ℕ → List Pinned
held_by graph thread = flat_map (λ slot. slot_held (graph.pin thread slot)) (range_with_len 0 4)

in_slot : (found : Option Pinned) (held : Pinned) → found ≡ Some held → Contains (slot_held found) held
in_slot found held found_held = subst (λ (found : Option Pinned). Contains (slot_held found) held) (sym found_held) (0, omega arith, refl)

of_slot : (found : Option Pinned) (held : Pinned) → Contains (slot_held found) held → found ≡ Some held
of_slot None held held_there = absurd (Contains-nil held held_there)
of_slot (Some pinned) held held_there = elim (Contains-cons_cases pinned [] held held_there) [ inl same_pinned ↦ ap Some same_pinned | inr later ↦ absurd (Contains-nil held later) ]

pub in_pins : (graph : Graph) (threads thread slot : ℕ) (held : Pinned) → 1 ≤ thread → thread ≤ threads → slot < 4 → graph.pin thread slot ≡ Some held → Contains (pins_held graph threads) held
in_pins graph threads thread_number slot held low high slot_below pin_there =
    let same_thread : 1 + (thread_number - 1) ≡ thread_number = omega (arith, low) in
    let thread : get_or (range_with_len 1 threads) (thread_number - 1) 0 ≡ thread_number = get_or-range_with_len 1 threads (thread_number - 1) 0 (omega (arith, low, high)) ∙ same_thread in
    let number : get_or (range_with_len 0 4) slot 0 ≡ slot = get_or-range_with_len 0 4 slot 0 slot_below ∙ zero_more slot in
    let slot_has : Contains (slot_held (graph.pin thread_number (get_or (range_with_len 0 4) slot 0))) held = subst (λ (slot : ℕ). Contains (slot_held (graph.pin thread_number slot)) held) (sym number) (in_slot (graph.pin thread_number slot) held pin_there) in
    let thread_has : Contains (held_by graph thread_number) held = Contains-flat_map (λ slot. slot_held (graph.pin thread_number slot)) (range_with_len 0 4) slot 0 held (omega (arith, slot_below, length-range_with_len 0 4)) slot_has in
    Contains-flat_map (held_by graph) (range_with_len 1 threads) (thread_number - 1) 0 held (omega (arith, low, high, length-range_with_len 1 threads)) (subst (λ (some_thread : ℕ). Contains (held_by graph some_thread) held) (sym thread) thread_has)
  where
    zero_more : (n : ℕ) → 0 + n ≡ n
    zero_more n = omega arith

pub of_pins : (graph : Graph) (threads : ℕ) (held : Pinned) → Contains (pins_held graph threads) held → (thread : ℕ) × (slot : ℕ) × (graph.pin thread slot ≡ Some held)
of_pins graph threads held held_there =
    let row = Contains-from_flat_map (held_by graph) (range_with_len 1 threads) 0 held held_there in
    let found_thread = get_or (range_with_len 1 threads) row.0 0 in
    let place = Contains-from_flat_map (λ slot. slot_held (graph.pin found_thread slot)) (range_with_len 0 4) 0 held row.2 in
    let slot = get_or (range_with_len 0 4) place.0 0 in
    (found_thread, slot, of_slot (graph.pin found_thread slot) held place.2)

-- ---- what is told of each that is held

told_of : {A B : Type 0} (f : A → B) (xs : List A) (y : B) → Contains (map f xs) y → (x : A) × Contains xs x × (f x ≡ y)
told_of f [] y image_there = absurd (Contains-nil y image_there)
told_of f (x ∷ xs) y image_there = elim (Contains-cons_cases (f x) (map f xs) y image_there) [
  | inl same_image ↦ (x, (0, omega arith, refl), same_image)
  | inr later ↦ (let found_later = told_of f xs y later in (found_later.0, Contains-append_right (x ∷ []) xs found_later.0 found_later.1, found_later.2))
]

-- ---- the objects

none_twice : {K : Type 0} (eq : K → K → Bool) → IsDistinct eq []
unfolding IsDistinct
none_twice eq = tt

abbrev named_by : Pinned → Reference
named_by pinned = Some pinned.name

same_name_held : (name other_name : Name) → ◌≡◌ {A = Reference} (Some name) (Some other_name) → name ≡ other_name
same_name_held name other_name same_reference = cc

pub are_pinned : (graph : Graph) (threads : ℕ) → HasPinsOf threads graph → ArePinned graph (names_held (pins_held graph threads))
are_pinned graph threads pins = record {
  differ = with_names-distinct [] (map named_by (pins_held graph threads)) (none_twice same_name);
  all = λ thread slot held pin_there.
      let within = pins thread slot held pin_there in
      with_names-has [] (map named_by (pins_held graph threads)) held.name (contains_mapped named_by (pins_held graph threads) held (in_pins graph threads thread slot held within.0 within.1 within.2 pin_there));
  only = λ name name_there. elim (with_names-only [] (map named_by (pins_held graph threads)) name name_there) [
    | inl never ↦ absurd (Contains-nil name never)
    | inr name_told ↦ (
        let found_pin = told_of named_by (pins_held graph threads) (Some name) name_told in
        let place = of_pins graph threads found_pin.0 found_pin.1 in
        (place.0, place.1, found_pin.0, place.2, same_name_held found_pin.0.name name found_pin.2))
  ];
}

pub words_are_held : (graph : Graph) (threads : ℕ) → HasPinsOf threads graph → Held graph (words_held graph (names_held (pins_held graph threads)))
words_are_held graph threads pins = (names_held (pins_held graph threads), are_pinned graph threads pins, refl)

-- ---- the regions

number_laws : IsEquivalence (λ (number other_number : ℕ). number == other_number)
number_laws = record {
  refl = λ x. (Decides-eqb x x).1 refl;
  symm = λ x y. grind (arith, nat_tests);
  congr = λ x y z numbers_same. ap (λ (n : ℕ). n == z) ((Decides-eqb x y).0 numbers_same);
}

any_flip : (n : ℕ) (xs : List ℕ) → list_any (λ element. element == n) xs ≡ list_any (λ element. n == element) xs
any_flip n [] = refl
any_flip n (x ∷ xs) = rw (number_laws.symm x n, any_flip n xs) refl

abbrev with_numbers : List ℕ → List ℕ → List ℕ
with_numbers found numbers = fold with_number found numbers

number_keeps : (xs : List ℕ) (number asked : ℕ) → Contains xs asked → Contains (with_number xs number) asked
number_keeps xs number asked asked_there = by_test (list_any (λ element. element == number) xs)
  where
    by_test : (holds : Bool) → Contains (if holds then xs else xs ++ number ∷ []) asked
    by_test true = asked_there
    by_test false = Contains-append_left xs (number ∷ []) asked asked_there

number_has : (xs : List ℕ) (number : ℕ) → Contains (with_number xs number) number
number_has xs number = by_test (list_any (λ element. element == number) xs) refl
  where
    by_test : (holds : Bool) → list_any (λ element. element == number) xs ≡ holds → Contains (if holds then xs else xs ++ number ∷ []) number
    by_test true number_test = Contains-from_any (λ x y numbers_equal. (Decides-eqb x y).0 numbers_equal) number xs (sym (any_flip number xs) ∙ number_test)
    by_test false number_test = Contains-push xs number

number_only : (xs : List ℕ) (number asked : ℕ) → Contains (with_number xs number) asked → Contains xs asked ⊎ (number ≡ asked)
number_only xs number asked asked_there = by_test (list_any (λ element. element == number) xs) asked_there
  where
    by_test : (holds : Bool) → Contains (if holds then xs else xs ++ number ∷ []) asked → Contains xs asked ⊎ (number ≡ asked)
    by_test true asked_here = inl asked_here
    by_test false asked_here = Contains-push_cases xs number asked asked_here

number_distinct : (xs : List ℕ) (number : ℕ) → IsDistinct (λ own_number other_number. own_number == other_number) xs → IsDistinct (λ own_number other_number. own_number == other_number) (with_number xs number)
number_distinct xs number distinct = by_test (list_any (λ element. element == number) xs) refl
  where
    by_test : (holds : Bool) → list_any (λ element. element == number) xs ≡ holds → IsDistinct (λ own_number other_number. own_number == other_number) (if holds then xs else xs ++ number ∷ [])
    by_test true number_test = distinct
    by_test false number_test = IsDistinct-push number_laws xs number distinct (sym (any_flip number xs) ∙ number_test)

numbers_keep : (xs numbers : List ℕ) (asked : ℕ) → Contains xs asked → Contains (with_numbers xs numbers) asked
numbers_keep xs [] asked asked_there = asked_there
numbers_keep xs (first_number ∷ numbers) asked asked_there = numbers_keep (with_number xs first_number) numbers asked (number_keeps xs first_number asked asked_there)

numbers_have : (xs numbers : List ℕ) (asked : ℕ) → Contains numbers asked → Contains (with_numbers xs numbers) asked
numbers_have xs [] asked asked_there = absurd (Contains-nil asked asked_there)
numbers_have xs (first_number ∷ numbers) asked asked_there = elim (Contains-cons_cases first_number numbers asked asked_there) [
  | inl same_number ↦ numbers_keep (with_number xs first_number) numbers asked (subst (Contains (with_number xs first_number)) same_number (number_has xs first_number))
  | inr later ↦ numbers_have (with_number xs first_number) numbers asked later
]

numbers_only : (xs numbers : List ℕ) (asked : ℕ) → Contains (with_numbers xs numbers) asked → Contains xs asked ⊎ Contains numbers asked
numbers_only xs [] asked asked_there = inl asked_there
numbers_only xs (first_number ∷ numbers) asked asked_there = elim (numbers_only (with_number xs first_number) numbers asked asked_there) [
  | inl before ↦ elim (number_only xs first_number asked before) [ inl in_first ↦ inl in_first | inr same_number ↦ inr (0, omega arith, same_number) ]
  | inr later ↦ inr (Contains-append_right (first_number ∷ []) numbers asked later)
]

numbers_distinct : (xs numbers : List ℕ) → IsDistinct (λ own_number other_number. own_number == other_number) xs → IsDistinct (λ own_number other_number. own_number == other_number) (with_numbers xs numbers)
numbers_distinct xs [] distinct = distinct
numbers_distinct xs (first_number ∷ numbers) distinct = numbers_distinct (with_number xs first_number) numbers (number_distinct xs first_number distinct)

abbrev region_of : ℕ → Pinned → ℕ
region_of region_words pinned = pinned.place / region_words

pub are_regions : (region_words : ℕ) (graph : Graph) (threads : ℕ) → HasPinsOf threads graph → ArePinnedRegions region_words graph (regions_held region_words (pins_held graph threads))
are_regions region_words graph threads pins = record {
  differ = numbers_distinct [] (map (region_of region_words) (pins_held graph threads)) (none_twice (λ region other_region. region == other_region));
  all = λ thread slot held pin_there.
      let within = pins thread slot held pin_there in
      numbers_have [] (map (region_of region_words) (pins_held graph threads)) (region_of region_words held) (contains_mapped (region_of region_words) (pins_held graph threads) held (in_pins graph threads thread slot held within.0 within.1 within.2 pin_there));
  only = λ region region_there. elim (numbers_only [] (map (region_of region_words) (pins_held graph threads)) region region_there) [
    | inl never ↦ absurd (Contains-nil region never)
    | inr region_told ↦ (
        let found_pin = told_of (region_of region_words) (pins_held graph threads) region region_told in
        let place = of_pins graph threads found_pin.0 found_pin.1 in
        (place.0, place.1, found_pin.0, place.2, found_pin.2))
  ];
}

pub regions_are_held : (region_words : ℕ) (graph : Graph) (threads : ℕ) → HasPinsOf threads graph → PinnedRegions region_words graph (length (regions_held region_words (pins_held graph threads)))
regions_are_held region_words graph threads pins = (regions_held region_words (pins_held graph threads), are_regions region_words graph threads pins, refl)

-- ---- one more that is held

pub one_name_more : (held : List Pinned) (index : ℕ) (pinned : Pinned) → index < length held → names_held (take (index + 1) held) ≡ with_name (names_held (take index held)) (Some (get_or held index pinned).name)
one_name_more held index pinned low =
    ap (λ (some_pins : List Pinned). names_held some_pins) (take_more held index pinned low)
    ∙ ap (fold with_name []) (map-append named_by (take index held) (get_or held index pinned ∷ []))
    ∙ fold-append with_name [] (map named_by (take index held)) (named_by (get_or held index pinned) ∷ [])

pub one_region_more : (region_words : ℕ) (held : List Pinned) (index : ℕ) (pinned : Pinned) → index < length held
    → regions_held region_words (take (index + 1) held) ≡ with_number (regions_held region_words (take index held)) ((get_or held index pinned).place / region_words)
one_region_more region_words held index pinned low =
    ap (λ (some_pins : List Pinned). regions_held region_words some_pins) (take_more held index pinned low)
    ∙ ap (fold with_number []) (map-append (region_of region_words) (take index held) (get_or held index pinned ∷ []))
    ∙ fold-append with_number [] (map (region_of region_words) (take index held)) (region_of region_words (get_or held index pinned) ∷ [])

-- what was found has it, or has it then
name_there : (found : List Name) (name : Name) → list_any (λ listed_name. same_name listed_name name) found ≡ true → with_name found (Some name) ≡ found
name_there found name name_found = rw name_found refl

name_new : (found : List Name) (name : Name) → list_any (λ listed_name. same_name listed_name name) found ≡ false → with_name found (Some name) ≡ found ++ name ∷ []
name_new found name name_missing = rw name_missing refl

pub name_again : (held : List Pinned) (index : ℕ) (pinned : Pinned) (found : List Name) → index < length held → found ≡ names_held (take index held) → list_any (λ listed_name. same_name listed_name (get_or held index pinned).name) found ≡ true
    → found ≡ names_held (take (index + 1) held)
name_again held index pinned found low so_far name_found =
    sym (name_there found (get_or held index pinned).name name_found) ∙ ap (λ (names : List Name). with_name names (Some (get_or held index pinned).name)) so_far ∙ sym (one_name_more held index pinned low)

pub name_added : (held : List Pinned) (index : ℕ) (pinned : Pinned) (found : List Name) → index < length held → found ≡ names_held (take index held) → list_any (λ listed_name. same_name listed_name (get_or held index pinned).name) found ≡ false
    → found ++ (get_or held index pinned).name ∷ [] ≡ names_held (take (index + 1) held)
name_added held index pinned found low so_far new =
    sym (name_new found (get_or held index pinned).name new) ∙ ap (λ (names : List Name). with_name names (Some (get_or held index pinned).name)) so_far ∙ sym (one_name_more held index pinned low)

-- the words of one more
pub words_added : (graph : Graph) (found : List Name) (name : Name) (words name_words : ℕ) (told_size : Option ℕ) → words ≡ words_held graph found → name_words ≡ unwrap_or told_size 3 → told_size ≡ option_map size (graph.object name)
    → words + name_words ≡ words_held graph (found ++ name ∷ [])
words_added graph found name words name_words told_size so_far size_told size_known =
    let pushed_sum = sum_by_push (λ (name : Name). size (named graph (Some name))) found name in
    let same_size : name_words ≡ size (named graph (Some name)) = size_told ∙ ap (λ (found : Option ℕ). unwrap_or found 3) size_known ∙ by_object (graph.object name) in
    omega (arith, so_far, pushed_sum, same_size)
  where
    by_object : (found_object : Option Object) → unwrap_or (option_map size found_object) 3 ≡ size (unwrap_or found_object (record { refs = []; nums = [] }))
    by_object None = refl
    by_object (Some found_object) = refl

number_there : (found : List ℕ) (number : ℕ) → list_any (λ listed_number. listed_number == number) found ≡ true → with_number found number ≡ found
number_there found number number_found = rw number_found refl

number_new : (found : List ℕ) (number : ℕ) → list_any (λ listed_number. listed_number == number) found ≡ false → with_number found number ≡ found ++ number ∷ []
number_new found number number_missing = rw number_missing refl

pub region_again : (region_words : ℕ) (held : List Pinned) (index : ℕ) (pinned : Pinned) (found : List ℕ) → index < length held → found ≡ regions_held region_words (take index held)
    → list_any (λ listed_region. listed_region == (get_or held index pinned).place / region_words) found ≡ true → found ≡ regions_held region_words (take (index + 1) held)
region_again region_words held index pinned found low so_far region_found =
    sym (number_there found ((get_or held index pinned).place / region_words) region_found) ∙ ap (λ (numbers : List ℕ). with_number numbers ((get_or held index pinned).place / region_words)) so_far ∙ sym (one_region_more region_words held index pinned low)

pub region_added : (region_words : ℕ) (held : List Pinned) (index : ℕ) (pinned : Pinned) (found : List ℕ) → index < length held → found ≡ regions_held region_words (take index held)
    → list_any (λ listed_region. listed_region == (get_or held index pinned).place / region_words) found ≡ false → found ++ (get_or held index pinned).place / region_words ∷ [] ≡ regions_held region_words (take (index + 1) held)
region_added region_words held index pinned found low so_far new =
    sym (number_new found ((get_or held index pinned).place / region_words) new) ∙ ap (λ (numbers : List ℕ). with_number numbers ((get_or held index pinned).place / region_words)) so_far ∙ sym (one_region_more region_words held index pinned low)
