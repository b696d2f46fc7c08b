-- What a walk over the addresses that roots lead to keeps, and what it has found at its end.
use Rattle.std.proofs.Common.{ℕ, ◌≡◌, ◌≢◌, ◌+◌, ◌-◌, ◌<◌, ◌≤◌, Bool, true, false, List, [], ◌++◌, length, get_or, nat_eq, replicate, All, arith, refl, ap, sym, ◌∙◌, inl, inr, subst}
use Rattle.std.proofs.lemmas.List.{get_or-replicate, length-replicate, get_or_append_left, get_or_default, map-append}
use Rattle.std.proofs.lemmas.List.Folds.{list_any_at}
use Rattle.std.proofs.lemmas.Bool.{eq-eqb, false≢true, cases_lt}
use Rattle.std.proofs.lemmas.Map.Keys.{IsDistinct-from_apart}
use Rattle.std.proofs.lemmas.Map.Views.{Contains-from_any, exact_unsigned_eq}
use Rattle.heap_world.specs.Walk.{has, refs_at, current_at, currents, Leads, from_root, from_field, IsWalkable, IsMarked, IsNullOrAmong, IsWalk, with_addresses}
use Rattle.heap_world.proofs.TakenDown.{kept, new, only, prefix, with_addresses-append, has-left, has-right}

-- with no flag set, the list without an address is marked
pub IsMarked-none : (first count : ℕ) (marks : List Bool) (order : List ℕ) → marks ≡ replicate count false → order ≡ [] → IsMarked first marks order
IsMarked-none first count marks order no_flags no_addresses =
    rw (no_flags, no_addresses) (record {
      once = IsDistinct-from_apart nat_eq [] (λ earlier later otherwise _ known. absurd (omega arith));
      among = λ listed_address known. absurd (false≢true known);
      flags = λ index known. get_or-replicate count index false false (rw length-replicate at known);
    })

-- what holds of each word that a list has
pub all_named-in : (words : List ℕ) (P : ℕ → Type 0) → ((word : ℕ) → has words word ≡ true → P word) → All P words
all_named-in words P each_word = λ index otherwise index_below. each_word _ (list_any_at _ words index otherwise index_below (eq-eqb _ _ refl))

-- the address of an object that the roots lead to has a flag
pub among_from_led : (first : ℕ) (heap roots : List ℕ) (count address : ℕ) → IsWalkable first heap roots → count ≡ length heap
    → Leads first heap roots address → (first ≤ address) × (address < first + count)
among_from_led first heap roots count address sound same_length led =
    (sound.above address led, omega (arith, sound.below address led))

-- the words that lead to objects each have a flag, or are null
pub all_among : (first : ℕ) (heap roots : List ℕ) (count : ℕ) (words : List ℕ) → IsWalkable first heap roots → count ≡ length heap
    → ((address : ℕ) → address ≢ 0 → has words address ≡ true → Leads first heap roots address) → All (IsNullOrAmong first count) words
all_among first heap roots count words sound same_length led =
    λ index otherwise index_below not_null. among_from_led first heap roots count _ sound same_length (led _ not_null (list_any_at _ words index otherwise index_below (eq-eqb _ _ refl)))

-- taking down words that lead to objects keeps that each address does
pub led_step : (first : ℕ) (heap roots order words : List ℕ)
    → ((address : ℕ) → has order address ≡ true → Leads first heap roots address)
    → ((address : ℕ) → address ≢ 0 → has words address ≡ true → Leads first heap roots address)
    → (address : ℕ) → has (with_addresses order words) address ≡ true → Leads first heap roots address
led_step first heap roots order words before words_lead address address_there =
    elim (only order words address address_there) [ inl old ↦ before address old | inr address_new ↦ words_lead address address_new.0 address_new.1 ]

-- each reference of the first so many objects of the list is null or in the list
abbrev pub IsClosed : ℕ → List ℕ → List ℕ → ℕ → Type 0
IsClosed first heap order next =
    (index address : ℕ) → index < next → address ≢ 0 → has (currents first heap (refs_at heap (get_or order index 0 - first))) address ≡ true → has order address ≡ true

-- an element of the list stands where it stood
stays : (order words : List ℕ) (index : ℕ) → index < length order → get_or (with_addresses order words) index 0 ≡ get_or order index 0
stays order words index index_below =
    let added = prefix order words in
    ap (λ xs. get_or xs index 0) added.1 ∙ get_or_append_left order added.0 0 index index_below

pub closed_step : (first : ℕ) (heap order words : List ℕ) (next : ℕ) → next < length order
    → words ≡ currents first heap (refs_at heap (get_or order next 0 - first)) → IsClosed first heap order next
    → IsClosed first heap (with_addresses order words) (next + 1)
closed_step first heap order words next low same_words closed place address place_below not_null refers =
    let within : place < length order = omega arith in
    let address_there : has (currents first heap (refs_at heap (get_or order place 0 - first))) address ≡ true =
    subst (λ (word : ℕ). has (currents first heap (refs_at heap (word - first))) address ≡ true) (stays order words place within) refers in
    elim (cases_lt place next) [
      | inl before ↦ kept order words address (closed place address before not_null address_there)
      | inr after ↦ (let same_index : place ≡ next = omega arith in
          new order words address not_null (ap (λ xs. has xs address) (same_words ∙ ap (λ index. currents first heap (refs_at heap (get_or order index 0 - first))) (sym same_index)) ∙ address_there))
    ]

-- what is read from a list is in it
pub has-read : (order : List ℕ) (index word : ℕ) → index < length order → word ≡ get_or order index word → has order word ≡ true
has-read order index word index_below word_read = list_any_at (nat_eq word) order index word index_below (eq-eqb word (get_or order index word) word_read)

-- a list that has the roots, and with each object its references, has each address that the roots lead to
pub all_found : (first : ℕ) (heap roots order : List ℕ)
    → ((address : ℕ) → address ≢ 0 → has (currents first heap roots) address ≡ true → has order address ≡ true)
    → IsClosed first heap order (length order)
    → (address : ℕ) → Leads first heap roots address → has order address ≡ true
all_found first heap roots order rooted closed address (from_root from not_null address_there) = rooted address not_null address_there
all_found first heap roots order rooted closed address (from_field holder from led not_null address_there) =
    let holder_found = Contains-from_any exact_unsigned_eq holder order (all_found first heap roots order rooted closed holder led) in
    let holder_there : get_or order holder_found.0 0 ≡ holder = get_or_default order holder_found.0 0 holder holder_found.1 ∙ holder_found.2 in
    closed holder_found.0 address holder_found.1 not_null (subst (λ (word : ℕ). has (currents first heap (refs_at heap (word - first))) address ≡ true) (sym holder_there) address_there)

pub IsWalk-from : (first : ℕ) (heap roots order : List ℕ) (marks : List Bool) (next : ℕ) → IsMarked first marks order
    → ((address : ℕ) → has order address ≡ true → Leads first heap roots address)
    → ((address : ℕ) → address ≢ 0 → has (currents first heap roots) address ≡ true → has order address ≡ true)
    → IsClosed first heap order next → length order ≤ next → IsWalk first heap roots order
IsWalk-from first heap roots order marks next marked led rooted closed all_done = record {
  once = marked.once;
  led = led;
  all = all_found first heap roots order rooted (λ index address among. closed index address (omega arith));
}

-- the current copies of what two lists of words name are those of what one of them names, and of what the other does
currents-append : (first : ℕ) (heap xs words : List ℕ) → currents first heap (xs ++ words) ≡ currents first heap xs ++ currents first heap words
currents-append first heap xs words = map-append (current_at first heap) xs words

pub currents-left : (first : ℕ) (heap xs ys : List ℕ) (address : ℕ) → has (currents first heap xs) address ≡ true → has (currents first heap (xs ++ ys)) address ≡ true
currents-left first heap xs ys address address_there =
    ap (λ zs. has zs address) (currents-append first heap xs ys) ∙ has-left (currents first heap xs) (currents first heap ys) address address_there

pub currents-right : (first : ℕ) (heap front_words words : List ℕ) (asked : ℕ) → has (currents first heap words) asked ≡ true → has (currents first heap (front_words ++ words)) asked ≡ true
currents-right first heap front_words words asked asked_there =
    ap (λ zs. has zs asked) (currents-append first heap front_words words) ∙ has-right (currents first heap front_words) (currents first heap words) asked asked_there

-- taking down those of one list and then those of the other takes down all
pub taken_both : (first : ℕ) (heap order words later_words : List ℕ)
    → with_addresses (with_addresses order (currents first heap words)) (currents first heap later_words) ≡ with_addresses order (currents first heap (words ++ later_words))
taken_both first heap order words later_words =
    sym (with_addresses-append order (currents first heap words) (currents first heap later_words))
    ∙ ap (with_addresses order) (sym (currents-append first heap words later_words))
