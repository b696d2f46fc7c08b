-- Which texts are the code of a place.
use Rattle.std.proofs.Common.{◌≡◌, ◌≢◌, ℕ, Bool, ◌||◌, true, false, nat_eq, Option, Some, None, IfSome, IfNone, List, [], ◌∷◌, length, refl, sym, ap, ◌∙◌}
use Rattle.std.specs.List.{list_any}
use Rattle.std.specs.Option.{is_some}
use Rattle.std.specs.Cmp.Lexicographic.{pointwise, same_text}
use Rattle.heap_words.specs.declared.place.Place.{Place}
use Rattle.heap_words.specs.declared.place.Place.TheVariants.{E1}
use Rattle.heap_words.specs.Place.{code_of}
use Rattle.trace_reading.specs.Codes.{places, is_code}

among : (place_list : List Place) (text : List ℕ) → list_any (λ place. pointwise nat_eq (code_of place) text) place_list ≡ true → (place : Place) × (code_of place ≡ text)
among [] text any_match = absurd cc
among (place ∷ place_list) text any_match = by_first (pointwise nat_eq (code_of place) text) refl (among place_list text) any_match
  where
    by_first : (first_test : Bool) → pointwise nat_eq (code_of place) text ≡ first_test → (list_any (λ other_place. pointwise nat_eq (code_of other_place) text) place_list ≡ true → (other_place : Place) × (code_of other_place ≡ text))
        → (first_test || list_any (λ other_place. pointwise nat_eq (code_of other_place) text) place_list) ≡ true → (other_place : Place) × (code_of other_place ≡ text)
    by_first true first_tested others some_match = (place, same_text (code_of place) text (sym first_tested))
    by_first false first_tested others some_match = others some_match

pub code_takes : (text : List ℕ) → is_code text ≡ true → (place : Place) × (code_of place ≡ text)
unfolding is_code
code_takes text has_code = among places text has_code

pub code_again : (place : Place) → is_code (code_of place) ≡ true
unfolding is_code
code_again E1 = refl
code_again _ = refl

-- a text that is no place's code
pub no_code : (text : List ℕ) → ((place : Place) → code_of place ≢ text) → is_code text ≡ false
no_code text no_place = by_test (is_code text) refl
  where
    by_test : (test : Bool) → is_code text ≡ test → test ≡ false
    by_test true tested = let found = code_takes text tested in absurd (no_place found.0 found.1)
    by_test false tested = refl

pub two_letters : (place : Place) → length (code_of place) ≡ 2
two_letters E1 = refl
two_letters _ = refl

-- a text of another length
pub other_length : (text : List ℕ) → (length text ≡ 2 → ⊥) → is_code text ≡ false
other_length text length_differs = no_code text (λ place texts_equal. length_differs (sym (ap length texts_equal) ∙ two_letters place))

pub code_asked : (found : Option Place) (code : List ℕ) → IfSome found (λ place. code_of place ≡ code) → IfNone found ((place : Place) → code_of place ≢ code) → is_some found ≡ is_code code
code_asked (Some place) code found unknown = sym (code_again place) ∙ ap is_code found
code_asked None code found unknown = sym (no_code code unknown)
