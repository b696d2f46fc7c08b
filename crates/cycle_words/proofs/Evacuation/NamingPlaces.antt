-- The words that name objects: roots and answers of the mutators.
use Rattle.std.proofs.Common.{◌≡◌, ◌≢◌, ℕ, ◌<◌, zero, suc, map, ⊎_elim, sym, ◌∙◌, subst, arith}
use Rattle.std.specs.Prelude.{Contains}
use Rattle.std.specs.List.{range_with_len}
use Rattle.std.proofs.lemmas.Bool.{cases_eq}
use Rattle.std.proofs.lemmas.List.FromFn.{length-map-range_with_len, get_or-map-range_with_len}
use Rattle.std.proofs.lemmas.List.Elements.{Contains-append_cases, Contains-append_left, Contains-append_right}
use Rattle.heap_words.specs.declared.config.Config.{Config}
use Rattle.heap_words.specs.Words.{Word, Root, Answer}
use Rattle.cycle_words.specs.Evacuation.Begun.{root_places, naming_places}

-- a root or an answer of a mutator
abbrev pub IsPlace : Config → Word → Type 0
IsPlace config (Root mutator index) = (mutator < config.mutators) × (index < 16)
IsPlace config (Answer mutator) = mutator < config.mutators
IsPlace config word = ⊥

-- what is in a row, and that it is
pub in_row : (f : ℕ → Word) (count : ℕ) (place : Word) → Contains (map f (range_with_len 0 count)) place → (index : ℕ) × (index < count) × (f index ≡ place)
in_row f count place place_listed =
    let index_below : place_listed.0 < count = omega (arith, place_listed.1, length-map-range_with_len f 0 count) in
    (place_listed.0, index_below, sym (get_or-map-range_with_len f 0 count place_listed.0 place_listed.0 place index_below (omega arith)) ∙ place_listed.2)

row_has : (f : ℕ → Word) (count index : ℕ) → index < count → Contains (map f (range_with_len 0 count)) (f index)
row_has f count index index_below = (index, (let same_length = length-map-range_with_len f 0 count in omega (arith, index_below, same_length)), get_or-map-range_with_len f 0 count index index (f index) index_below (omega arith))

pub in_rows : (mutators : ℕ) (place : Word) → Contains (root_places mutators) place → (mutator : ℕ) × (index : ℕ) × (mutator < mutators) × (index < 16) × (Root mutator index ≡ place)
in_rows zero place place_listed = absurd (omega (arith, place_listed.1))
in_rows (suc mutator) place place_listed = ⊎_elim
    (λ (earlier : Contains (root_places mutator) place). (let found_place = in_rows mutator place earlier in (found_place.0, found_place.1, omega (arith, found_place.2), found_place.3, found_place.4)))
    (λ (in_last_row : Contains (map (Root mutator) (range_with_len 0 16)) place). (let found_place = in_row (Root mutator) 16 place in_last_row in (mutator, found_place.0, omega arith, found_place.1, found_place.2)))
    (Contains-append_cases (root_places mutator) (map (Root mutator) (range_with_len 0 16)) place place_listed)

rows_have : (mutators mutator index : ℕ) → mutator < mutators → index < 16 → Contains (root_places mutators) (Root mutator index)
rows_have zero mutator index mutator_below index_below = absurd (omega (arith, mutator_below))
rows_have (suc earlier_mutators) mutator index mutator_below index_below = ⊎_elim
    (λ (is_last : mutator ≡ earlier_mutators).
    Contains-append_right (root_places earlier_mutators) (map (Root earlier_mutators) (range_with_len 0 16)) (Root mutator index)
    (subst (λ mutator. Contains (map (Root earlier_mutators) (range_with_len 0 16)) (Root mutator index)) (sym is_last) (row_has (Root earlier_mutators) 16 index index_below)))
    (λ (earlier : mutator ≢ earlier_mutators). Contains-append_left (root_places earlier_mutators) (map (Root earlier_mutators) (range_with_len 0 16)) (Root mutator index) (rows_have earlier_mutators mutator index (omega (arith, mutator_below, earlier)) index_below))
    (cases_eq mutator earlier_mutators)

-- so the list has these and no others
pub are_places : (config : Config) (place : Word) → Contains (naming_places config) place → IsPlace config place
are_places config place place_listed = ⊎_elim
    (λ (root : Contains (root_places config.mutators) place). (let found_place = in_rows config.mutators place root in subst (IsPlace config) found_place.4 (found_place.2, found_place.3)))
    (λ (answer : Contains (map Answer (range_with_len 0 config.mutators)) place). (let found_place = in_row Answer config.mutators place answer in subst (IsPlace config) found_place.2 found_place.1))
    (Contains-append_cases (root_places config.mutators) (map Answer (range_with_len 0 config.mutators)) place place_listed)

pub places_have : (config : Config) (place : Word) → IsPlace config place → Contains (naming_places config) place
places_have config (Root mutator index) place = Contains-append_left (root_places config.mutators) (map Answer (range_with_len 0 config.mutators)) (Root mutator index) (rows_have config.mutators mutator index place.0 place.1)
places_have config (Answer mutator) place = Contains-append_right (root_places config.mutators) (map Answer (range_with_len 0 config.mutators)) (Answer mutator) (row_has Answer config.mutators mutator place)
places_have config _ place = absurd place
