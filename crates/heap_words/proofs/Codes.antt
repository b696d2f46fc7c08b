-- Two places never have one code: a place is found again by its code.
use Rattle.std.proofs.lemmas.Bool.{and_parts}
use Rattle.std.proofs.Common.{◌≡◌, ℕ, ◌<◌, zero, suc, Bool, true, false, ◌&&◌, cond, eqb, List, [], ◌∷◌, length, get_or, refl, sym, ap, ◌∙◌, lit<, subst, arith}
use Rattle.std.proofs.lemmas.Bool.Decides.{Decides-eqb}
use Rattle.std.proofs.lemmas.Slice.Eq.{bytes_eq-Decides}
use Rattle.std.specs.Str.{bytes_eq}
use Rattle.heap_words.proofs.Bools.{same_truth}
use denote.Enum.Declared.{tag_of}
use denote.Enum.Bare.{sameb, same_true, true_same}
use Rattle.heap_words.specs.contracts.place.Place.{the_type}
use Rattle.heap_words.specs.declared.place.Place.{Place}
use Rattle.heap_words.specs.declared.place.Place.TheVariants.{E1}
use Rattle.heap_words.specs.declared.place.TheConstants.{CODES}
use Rattle.heap_words.specs.Place.{code_of, same_place}

-- the row of a place in the table of codes
abbrev pub row_of : Place → ℕ
row_of place = tag_of the_type place

pub row_of_lt : (place : Place) → row_of place < 89
row_of_lt E1 = lit< tt
row_of_lt _ = lit< tt

-- each place stands in its row, with its code
pub row-row_of : (place : Place) → get_or CODES (row_of place) (E1, []) ≡ (place, code_of place)
row-row_of E1 = refl
row-row_of _ = refl

second_true : (holds other_holds : Bool) → (holds && other_holds) ≡ true → other_holds ≡ true
second_true true holds both_true = both_true
second_true false holds both_true = cc

-- whether each row of a table has a place with its code
abbrev spells : List (Place × List ℕ) → Bool
spells [] = true
spells (row ∷ rows) = bytes_eq (code_of row.0) row.1 && spells rows

code_of-row_in : (rows : List (Place × List ℕ)) (index : ℕ) → spells rows ≡ true → index < length rows
    → code_of (get_or rows index (E1, [])).0 ≡ (get_or rows index (E1, [])).1
code_of-row_in [] index good index_below = absurd (omega arith)
code_of-row_in (row ∷ rows) zero good index_below = (bytes_eq-Decides (code_of row.0) row.1).0 ((and_parts (bytes_eq (code_of row.0) row.1) (spells rows) good).0)
code_of-row_in (row ∷ rows) (suc index) good index_below =
    code_of-row_in rows index (second_true (bytes_eq (code_of row.0) row.1) (spells rows) good) (omega arith)

-- each row has a place with its code
pub code_of-row : (index : ℕ) → index < 89 → code_of (get_or CODES index (E1, [])).0 ≡ (get_or CODES index (E1, [])).1
code_of-row index index_below = code_of-row_in CODES index refl index_below

-- the first place with a code
abbrev first_with : List (Place × List ℕ) → List ℕ → Place
first_with [] code = E1
first_with (row ∷ rows) code = cond (bytes_eq row.1 code) row.0 (first_with rows code)

first_with-code_of : (place : Place) → first_with CODES (code_of place) ≡ place
first_with-code_of E1 = refl
first_with-code_of _ = refl

pub same_code : (place second_place : Place) → code_of place ≡ code_of second_place → place ≡ second_place
same_code place second_place same_codes = sym (first_with-code_of place) ∙ ap (first_with CODES) same_codes ∙ first_with-code_of second_place

-- a code is two letters or digits
two_listed : (place : Place) → code_of place ≡ get_or (code_of place) 0 0 ∷ get_or (code_of place) 1 0 ∷ []
two_listed E1 = refl
two_listed _ = refl

same_place-self : (place : Place) → same_place place place ≡ true
same_place-self E1 = refl
same_place-self _ = refl

-- the comparison of two places is true of one place alone
pub same_place-true : (place second_place : Place) → same_place place second_place ≡ true → place ≡ second_place
same_place-true place second_place places_match =
    let first_number = (Decides-eqb (get_or (code_of place) 0 0) (get_or (code_of second_place) 0 0)).0 ((and_parts (eqb (get_or (code_of place) 0 0) (get_or (code_of second_place) 0 0)) (eqb (get_or (code_of place) 1 0) (get_or (code_of second_place) 1 0)) places_match).0) in
    let second_number = (Decides-eqb (get_or (code_of place) 1 0) (get_or (code_of second_place) 1 0)).0 (second_true (eqb (get_or (code_of place) 0 0) (get_or (code_of second_place) 0 0)) (eqb (get_or (code_of place) 1 0) (get_or (code_of second_place) 1 0)) places_match) in
    same_code place second_place (two_listed place ∙ ap (λ first_part. first_part ∷ get_or (code_of place) 1 0 ∷ []) first_number ∙ ap (λ second_part. get_or (code_of second_place) 0 0 ∷ second_part ∷ []) second_number ∙ sym (two_listed second_place))

-- and it is the comparison that code makes
pub sameb-same_place : (place second_place : Place) → sameb the_type place second_place ≡ same_place place second_place
sameb-same_place place second_place =
    same_truth (sameb the_type place second_place) (same_place place second_place)
    (λ test_true. let equal_places = same_true the_type tt place second_place test_true in subst (λ other_place. same_place place other_place ≡ true) equal_places (same_place-self place))
    (λ test_true. true_same the_type place second_place (same_place-true place second_place test_true))

-- one of the rows that was found by its code
pub row_found : (code : List ℕ) (index : ℕ) → index < 89 → (get_or CODES index (E1, [])).1 ≡ code → code_of (get_or CODES index (E1, [])).0 ≡ code
row_found code index index_below has_code = code_of-row index index_below ∙ has_code

-- a place with the code is that of the row
pub row_only : (code : List ℕ) (index : ℕ) → index < 89 → (get_or CODES index (E1, [])).1 ≡ code → (place : Place) → code_of place ≡ code → (get_or CODES index (E1, [])).0 ≡ place
row_only code index index_below has_code place spelled = same_code (get_or CODES index (E1, [])).0 place (row_found code index index_below has_code ∙ sym spelled)

-- where no row has a code, no place has it
pub row_none : (code : List ℕ) → ((index : ℕ) → index < 89 → (get_or CODES index (E1, [])).1 ≡ code → ⊥) → (place : Place) → code_of place ≡ code → ⊥
row_none code no_row_has place spelled = no_row_has (row_of place) (row_of_lt place) (ap (λ row. row.1) (row-row_of place) ∙ spelled)
