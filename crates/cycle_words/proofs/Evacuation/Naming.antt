-- The words that name objects: roots and answers.
use Rattle.std.proofs.Common.{◌≡◌, ℕ, ◌<◌, ◌⊎◌, false, zero, suc, List, [], ◌∷◌, map, length, get_or, Option, Some, None, inl, inr, refl, subst, ⊎_elim, arith}
use Rattle.std.specs.Prelude.{Contains}
use Rattle.std.specs.List.{range_with_len}
use Rattle.std.proofs.lemmas.Bool.{false_from_ne_true}
use Rattle.std.proofs.lemmas.List.Elements.{Contains-append_cases}
use Rattle.heap_words.specs.declared.config.Config.{Config}
use Rattle.heap_words.specs.Words.{Word, Root, Answer, same_word}
use Rattle.heap_words.proofs.Stores.{same_word_true}
use Rattle.cycle_words.specs.Evacuation.Copied.{copied_in, copied_to}
use Rattle.cycle_words.specs.Evacuation.Begun.{root_places, naming_places, IsNaming, with_set}

-- a word that names objects is none of the others
pub not_same : (place word : Word) → IsNaming place → (IsNaming word → ⊥) → same_word place word ≡ false
not_same place word naming not_naming = false_from_ne_true (same_word place word) (λ same_tested. not_naming (subst IsNaming (same_word_true place word same_tested) naming))

-- what names objects stays
pub copied_naming : (config : Config) (memory : Word → ℕ) (address : ℕ) (found : Option ℕ) (place : Word) → IsNaming place → copied_in config memory address found place ≡ memory place
unfolding copied_to
copied_naming config memory address None place naming = refl
copied_naming config memory address (Some found_region) (Root mutator index) naming = refl
copied_naming config memory address (Some found_region) (Answer mutator) naming = refl
copied_naming config memory address (Some found_region) place naming = absurd naming

-- the parts of a list, and what is in it
pub first_or_later : (first : Word) (later : List Word) (place : Word) (index : ℕ) → index < length (first ∷ later) → get_or (first ∷ later) index place ≡ place
    → (first ≡ place) ⊎ Contains later place
first_or_later first later place zero index_below found_place = inl found_place
first_or_later first later place (suc index) index_below found_place = inr (index, omega (arith, index_below), found_place)

pub is_later : (first : Word) (later : List Word) (place : Word) → Contains later place → Contains (first ∷ later) place
is_later first later place place_listed = (suc place_listed.0, omega (arith, place_listed.1), place_listed.2)

pub is_first : (first : Word) (later : List Word) → Contains (first ∷ later) first
is_first first later = (zero, omega arith, refl)

all_naming : (f : ℕ → Word) (each_naming : (index : ℕ) → IsNaming (f index)) (xs : List ℕ) (place : Word) → Contains (map f xs) place → IsNaming place
all_naming f each_naming [] place place_listed = absurd (omega (arith, place_listed.1))
all_naming f each_naming (x ∷ xs) place place_listed = ⊎_elim
    (λ (first_there : f x ≡ place). subst IsNaming first_there (each_naming x))
    (λ (later : Contains (map f xs) place). all_naming f each_naming xs place later)
    (first_or_later (f x) (map f xs) place place_listed.0 place_listed.1 place_listed.2)

roots_name : (mutator : ℕ) (place : Word) → Contains (root_places mutator) place → IsNaming place
roots_name zero place place_listed = absurd (omega (arith, place_listed.1))
roots_name (suc mutator) place place_listed = ⊎_elim
    (λ (earlier : Contains (root_places mutator) place). roots_name mutator place earlier)
    (λ (in_last_row : Contains (map (Root mutator) (range_with_len 0 16)) place). all_naming (Root mutator) (λ i. tt) (range_with_len 0 16) place in_last_row)
    (Contains-append_cases (root_places mutator) (map (Root mutator) (range_with_len 0 16)) place place_listed)

pub places_name : (config : Config) (place : Word) → Contains (naming_places config) place → IsNaming place
places_name config place place_listed = ⊎_elim
    (λ (root : Contains (root_places config.mutators) place). roots_name config.mutators place root)
    (λ (answer : Contains (map Answer (range_with_len 0 config.mutators)) place). all_naming Answer (λ t. tt) (range_with_len 0 config.mutators) place answer)
    (Contains-append_cases (root_places config.mutators) (map Answer (range_with_len 0 config.mutators)) place place_listed)

-- a collection set changes nothing else
pub set_apart : (memory : Word → ℕ) (cset : ℕ) (place : Word) → IsNaming place → with_set memory cset place ≡ memory place
set_apart memory cset (Root mutator index) naming = refl
set_apart memory cset (Answer mutator) naming = refl
set_apart memory cset place naming = absurd naming
