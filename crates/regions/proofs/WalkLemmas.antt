-- The walk from one thing to the next: what it meets.
use Rattle.std.proofs.Common.{◌≡◌, ℕ, ◌+◌, ◌-◌, ◌<◌, ◌≤◌, ◌⊎◌, ⊎_elim, inl, inr, nat_lt, List, [], ◌∷◌, ◌++◌, length, get_or, Contains, AllPairs, sum_by, refl, sym, ap, ◌∙◌, subst, arith, zero, suc}
use Rattle.std.specs.List.Sorted.{IsStrictlyIncreasing}
use Rattle.std.proofs.lemmas.Bool.{cases_lt, cond_both, cond-true, cond-false, lt-ltb, le-ltb, ltb-true, ltb-false}
use Rattle.std.proofs.lemmas.List.Elements.{Contains-append_right, Contains-get_or}
use Rattle.std.proofs.lemmas.List.Kept.{AllPairs-cons}
use Rattle.std.proofs.lemmas.List.Sums.{sum_by-cons}
use Rattle.regions.specs.Place.{base_of}
use Rattle.regions.specs.Walk.{stride_at, Walks, met_within, met_from, IsParsableStretch, MeetsExactly, WalksMeetEach, WalkGoesOn, WalkStaysInRegion}

-- an element of a list with a head is the head or a later one
head_or_later_at : (index head : ℕ) (later : List ℕ) (address : ℕ) → index < length (head ∷ later) → get_or (head ∷ later) index address ≡ address → (head ≡ address) ⊎ Contains later address
head_or_later_at zero head later address index_below found_there = inl found_there
head_or_later_at (suc index) head later address index_below found_there = inr (index, omega arith, found_there)

head_or_later : (head : ℕ) (later : List ℕ) (address : ℕ) → Contains (head ∷ later) address → (head ≡ address) ⊎ Contains later address
head_or_later head later address contains = head_or_later_at contains.0 head later address contains.1 contains.2

contains_head : (head : ℕ) (later : List ℕ) (address : ℕ) → head ≡ address → Contains (head ∷ later) address
contains_head head later address is_head = (0, omega arith, is_head)

contains_later : (head : ℕ) (later : List ℕ) (address : ℕ) → Contains later address → Contains (head ∷ later) address
contains_later head later address contains = Contains-append_right (head ∷ []) later address contains

-- a walk never comes to an address below the one from which it set out
pub walks_up : (words : ℕ → ℕ) (from end : ℕ) (addresses : List ℕ) → Walks words from end addresses → from ≤ end
walks_up words from end [] walk = omega arith
walks_up words from end (head ∷ later) walk = omega (arith, walk.0, walks_up words (head + words head) end later walk.2)

-- an address that is met lies between the two, with all of its words
pub met_inside : (words : ℕ → ℕ) (from end : ℕ) (addresses : List ℕ) → Walks words from end addresses
    → (address : ℕ) → Contains addresses address → (from ≤ address) × (address < address + words address) × (address + words address ≤ end)
met_inside words from end [] walk address contains = absurd (omega (arith, contains.1))
met_inside words from end (head ∷ later) walk address contains =
    let Inside : ℕ → Type 0 = λ met_address. (from ≤ met_address) × (met_address < met_address + words met_address) × (met_address + words met_address ≤ end) in
    let head_ends : head + words head ≤ end = walks_up words (head + words head) end later walk.2 in
    let head_inside : Inside head = (omega (arith, walk.0), omega (arith, walk.1), head_ends) in
    ⊎_elim
    (λ (is_head : head ≡ address). subst Inside is_head head_inside)
    (λ (in_later : Contains later address).
    let rest = met_inside words (head + words head) end later walk.2 address in_later in
    (omega (arith, walk.0, rest.0), rest.1, rest.2))
    (head_or_later head later address contains)

-- what comes later than the first is above it, with all words of the first between
later_above : (words : ℕ → ℕ) (head end : ℕ) (later : List ℕ) → Walks words (head + words head) end later → (address : ℕ) → Contains later address → head + words head ≤ address
later_above words head end later walk address contains = (met_inside words (head + words head) end later walk address contains).0

met_pairs : (words : ℕ → ℕ) (from end : ℕ) (addresses : List ℕ) → Walks words from end addresses → AllPairs (λ x y. x < y) addresses
met_pairs words from end [] walk = λ earlier later_index otherwise index_below last_below. absurd (omega (arith, last_below))
met_pairs words from end (head ∷ later) walk =
    AllPairs-cons (λ x y. x < y) head later
    (λ index otherwise index_below. let above_head = later_above words head end later walk.2 (get_or later index otherwise) (Contains-get_or later index otherwise index_below) in omega (arith, above_head, walk.1))
    (met_pairs words (head + words head) end later walk.2)

-- the addresses go up
pub met_increasing : (words : ℕ → ℕ) (from end : ℕ) (addresses : List ℕ) → Walks words from end addresses → IsStrictlyIncreasing addresses
met_increasing words from end addresses walk = λ index index_below. met_pairs words from end addresses walk index (index + 1) 0 (omega arith) index_below

-- no two things that are met share a word
pub met_apart : (words : ℕ → ℕ) (from end : ℕ) (addresses : List ℕ) → Walks words from end addresses
    → (lower_address upper_address : ℕ) → Contains addresses lower_address → Contains addresses upper_address → lower_address < upper_address → lower_address + words lower_address ≤ upper_address
met_apart words from end [] walk lower_address upper_address lower_met upper_met in_order = absurd (omega (arith, lower_met.1))
met_apart words from end (head ∷ later) walk lower_address upper_address lower_met upper_met in_order =
    let Apart : ℕ → Type 0 = λ met_address. met_address < upper_address → met_address + words met_address ≤ upper_address in
    ⊎_elim
    (λ (x_first : head ≡ lower_address). subst Apart x_first
    (⊎_elim
    (λ (y_first : head ≡ upper_address). λ (lower : head < upper_address). absurd (omega arith))
    (λ (y_later : Contains later upper_address). λ (lower : head < upper_address). later_above words head end later walk.2 upper_address y_later)
    (head_or_later head later upper_address upper_met)) in_order)
    (λ (x_later : Contains later lower_address).
    let above_head = later_above words head end later walk.2 lower_address x_later in
    ⊎_elim
    (λ (y_first : head ≡ upper_address). absurd (omega (arith, above_head, walk.1)))
    (λ (y_later : Contains later upper_address). met_apart words (head + words head) end later walk.2 lower_address upper_address x_later y_later in_order)
    (head_or_later head later upper_address upper_met))
    (head_or_later head later lower_address lower_met)

-- each word from the one to before the other is one of a thing that is met
pub met_covered : (words : ℕ → ℕ) (from end : ℕ) (addresses : List ℕ) → Walks words from end addresses
    → (word : ℕ) → from ≤ word → word < end → (address : ℕ) × Contains addresses address × (address ≤ word) × (word < address + words address)
met_covered words from end [] walk word word_above word_below = absurd (omega arith)
met_covered words from end (address ∷ later) walk word word_above word_below =
    ⊎_elim
    (λ (in_first : word < address + words address). (address, contains_head address later address refl, omega (arith, walk.0), in_first))
    (λ (past_first : address + words address ≤ word).
    let found = met_covered words (address + words address) end later walk.2 word past_first word_below in
    (found.0, contains_later address later found.0 found.1, found.2, found.3))
    (cases_lt word (address + words address))

-- an address to which one comes from the same start is met
pub met_reached : (words : ℕ → ℕ) (from end : ℕ) (addresses : List ℕ) → Walks words from end addresses
    → (other_end : ℕ) (before : List ℕ) → Walks words from other_end before → other_end < end → Contains addresses other_end
met_reached words from end [] walk other_end before to_x end_below = absurd (omega (arith, walk, walks_up words from other_end before to_x))
met_reached words from end (head ∷ later) walk reached_end [] to_x end_below = contains_head head later reached_end (walk.0 ∙ to_x)
met_reached words from end (head ∷ later) walk reached_end (other_head ∷ before) to_x end_below =
    let From : ℕ → Type 0 = λ met_address. Walks words (met_address + words met_address) reached_end before in
    contains_later head later reached_end
    (met_reached words (head + words head) end later walk.2 reached_end before (subst From (to_x.0 ∙ sym walk.0) to_x.2) end_below)

-- the words of all together
pub met_whole : (words : ℕ → ℕ) (from end : ℕ) (addresses : List ℕ) → Walks words from end addresses → from + sum_by words addresses ≡ end
met_whole words from end [] walk = omega arith
met_whole words from end (head ∷ later) walk =
    omega (arith, walk.0, sum_by-cons words head later, met_whole words (head + words head) end later walk.2)

-- with enough steps the walk is found
pub met_found : (steps : ℕ) (words : ℕ → ℕ) (from end : ℕ) (addresses : List ℕ) → Walks words from end addresses
    → end ≤ from + steps → met_within steps words from end ≡ addresses
met_found zero words from end [] walk enough = refl
met_found (suc steps) words from end [] walk enough = cond-false (nat_lt from end) _ _ (le-ltb from end (omega arith))
met_found zero words from end (head ∷ later) walk enough =
    absurd (omega (arith, walk.0, walk.1, walks_up words (head + words head) end later walk.2))
met_found (suc steps) words from end (head ∷ later) walk enough =
    let later_up = walks_up words (head + words head) end later walk.2 in
    let Found : ℕ → Type 0 = λ met_address. met_address ∷ met_within steps words (met_address + words met_address) end ≡ head ∷ later in
    cond-true (nat_lt from end) _ _ (lt-ltb from end (omega (arith, later_up, walk.0, walk.1)))
    ∙ subst Found walk.0
    (ap (λ (rest : List ℕ). head ∷ rest)
    (met_found steps words (head + words head) end later walk.2 (omega (arith, walk.0, walk.1))))

pub walks_meet_each : WalksMeetEach
walks_meet_each words from end addresses walk = record {
  increasing = met_increasing words from end addresses walk;
  inside = met_inside words from end addresses walk;
  apart = met_apart words from end addresses walk;
  covered = met_covered words from end addresses walk;
  reached = met_reached words from end addresses walk;
  whole = met_whole words from end addresses walk;
  only = met_found (end - from) words from end addresses walk (omega arith);
}

-- what stands behind the first thing is parsable too
parsable_later : (Begins : ℕ → Type 0) (words : ℕ → ℕ) (from end : ℕ) → IsParsableStretch Begins words from end → from < end
    → IsParsableStretch Begins words (from + words from) end
parsable_later Begins words from end parsable from_below = record {
  order = parsable.inside from (parsable.first from_below) (omega arith) from_below;
  first = λ words_left. parsable.next from (parsable.first from_below) (omega arith) words_left;
  next = λ address begins address_above. parsable.next address begins (omega arith);
  some = λ address begins address_above. parsable.some address begins (omega arith);
  inside = λ address begins address_above. parsable.inside address begins (omega arith);
  apart = λ address later_address begins_a begins_b address_above. parsable.apart address later_address begins_a begins_b (omega arith);
}

parsable_walks : (steps : ℕ) (Begins : ℕ → Type 0) (words : ℕ → ℕ) (from end : ℕ) → IsParsableStretch Begins words from end
    → end ≤ from + steps → Walks words from end (met_within steps words from end)
parsable_walks zero Begins words from end parsable enough = omega (arith, parsable.order)
parsable_walks (suc steps) Begins words from end parsable enough =
    cond_both (nat_lt from end) (from ∷ met_within steps words (from + words from) end) []
    (λ (met : List ℕ). Walks words from end met)
    (λ test.
    let from_below : from < end = ltb-true from end test in
    let some_words : 0 < words from = parsable.some from (parsable.first from_below) (omega arith) from_below in (
      refl,
      some_words,
      parsable_walks steps Begins words (from + words from) end (parsable_later Begins words from end parsable from_below)
          (omega arith),
    ))
    (λ test. let past_end : end ≤ from = ltb-false from end test in omega (arith, parsable.order))

-- at each address that is met a thing begins
parsable_begins : (Begins : ℕ → Type 0) (words : ℕ → ℕ) (from end : ℕ) (addresses : List ℕ) → IsParsableStretch Begins words from end
    → Walks words from end addresses → (address : ℕ) → Contains addresses address → Begins address
parsable_begins Begins words from end [] parsable walk address contains = absurd (omega (arith, contains.1))
parsable_begins Begins words from end (head ∷ later) parsable walk address contains =
    let later_up = walks_up words (head + words head) end later walk.2 in
    let from_below : from < end = omega (arith, later_up, walk.0, walk.1) in
    let Later : ℕ → Type 0 = λ met_address. Walks words (met_address + words met_address) end later in
    ⊎_elim
    (λ (is_head : head ≡ address). subst Begins (sym walk.0 ∙ is_head) (parsable.first from_below))
    (λ (in_later : Contains later address).
    parsable_begins Begins words (from + words from) end later (parsable_later Begins words from end parsable from_below)
    (subst Later walk.0 walk.2) address in_later)
    (head_or_later head later address contains)

-- where the heap is parsable, a walk meets exactly what begins there
pub parsable_is_walked : (Begins : ℕ → Type 0) (words : ℕ → ℕ) (from end : ℕ) → IsParsableStretch Begins words from end
    → MeetsExactly Begins words from end (met_from words from end)
parsable_is_walked Begins words from end parsable =
    let walk = parsable_walks (end - from) Begins words from end parsable (omega (arith, parsable.order)) in
    let begin = parsable_begins Begins words from end (met_from words from end) parsable walk in
    record {
      walks = walk;
      begins = begin;
      all = λ address begins address_above address_below.
          let found = met_covered words from end (met_from words from end) walk address address_above address_below in
          let begins_found = begin found.0 found.1 in
          let inside = met_inside words from end (met_from words from end) walk found.0 found.1 in
          ⊎_elim
          (λ (lower : found.0 < address).
          absurd (omega (arith, found.3, parsable.apart found.0 address begins_found begins inside.0 lower address_below)))
          (λ (not_below : address ≤ found.0).
          let In : ℕ → Type 0 = λ met_address. Contains (met_from words from end) met_address in
          subst In (omega (arith, found.2, not_below)) found.1)
          (cases_lt found.0 address);
    }

-- a walk with one more step
walk_push : (words : ℕ → ℕ) (from address : ℕ) (before : List ℕ) → Walks words from address before → 0 < words address
    → Walks words from (address + words address) (before ++ address ∷ [])
walk_push words from address [] walk positive = (sym walk, positive, refl)
walk_push words from address (head ∷ later) walk positive =
    (walk.0, walk.1, walk_push words (head + words head) address later walk.2 positive)

-- a walk that has come so far goes on to the address behind, which is not past the end
pub walk_goes_on : WalkGoesOn
walk_goes_on words from address end addresses before whole_walk walk address_below =
    let reached = met_reached words from end addresses whole_walk address before walk address_below in
    let inside = met_inside words from end addresses whole_walk address reached in
    (inside.1, inside.2, walk_push words from address before walk (omega (arith, inside.1)))

-- what a walk meets from a region's base to its top is of that region
pub walk_stays_in_region : WalkStaysInRegion
walk_stays_in_region config heap region top addresses within walk met_address met =
    let inside = met_inside (stride_at heap) (base_of config region) (base_of config region + top) addresses walk met_address met in (
      record { from = inside.0; before = omega (arith, inside.1, inside.2) },
      record { from = omega (arith, inside.0, inside.1); before = omega (arith, inside.1, inside.2) },
    )
