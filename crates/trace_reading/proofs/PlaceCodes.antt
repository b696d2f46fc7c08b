-- The code of a place at the front of bytes.
use Rattle.std.proofs.Common.{◌≡◌, ◌≢◌, ℕ, ◌-◌, ◌<◌, ◌≤◌, List, [], ◌∷◌, ◌++◌, length, length-append, get_or, take, drop, sym, ap, subst, ◌∙◌, arith}
use Rattle.std.proofs.lemmas.List.{take_all}
use Rattle.heap_words.specs.declared.place.Place.{Place}
use Rattle.heap_words.specs.Place.{code_of}
use Rattle.heap_words.proofs.Codes.{same_code}
use Rattle.trace_reading.specs.Front.{BeginsWith, BeginsWithNone, IsAny}
use Rattle.trace_reading.proofs.RefusedPlaces.{two_letters}

-- two letters at the front
split_front : (first_letter second_letter : ℕ) (rest code after : List ℕ) → length code ≡ 2 → first_letter ∷ second_letter ∷ rest ≡ code ++ after → (code ≡ first_letter ∷ second_letter ∷ []) × (rest ≡ after)
split_front first_letter second_letter rest [] after two_long same_text = absurd (omega arith)
split_front first_letter second_letter rest (code_first ∷ []) after two_long same_text = absurd (omega arith)
split_front first_letter second_letter rest (code_first ∷ code_second ∷ []) after two_long same_text = (cc, cc)
split_front first_letter second_letter rest (code_first ∷ code_second ∷ x ∷ xs) after two_long same_text = absurd (omega arith)

pub too_short : (bytes : List ℕ) → length bytes < 2 → BeginsWithNone code_of IsAny bytes
too_short bytes too_few place after valid_place no_digit same_bytes = omega (arith, too_few, ap length same_bytes, length-append (code_of place) after, two_letters place)

pub no_place : (bytes : List ℕ) → 2 ≤ length bytes → ((place : Place) → code_of place ≢ get_or bytes 0 0 ∷ get_or bytes 1 0 ∷ []) → BeginsWithNone code_of IsAny bytes
no_place [] two_bytes unknown y after valid_place no_digit same_bytes = omega arith
no_place (first_letter ∷ []) two_bytes unknown y after valid_place no_digit same_bytes = omega arith
no_place (first_letter ∷ second_letter ∷ rest) two_bytes unknown y after valid_place no_digit same_bytes = unknown y (split_front first_letter second_letter rest (code_of y) after (two_letters y) same_bytes).0

pub place_read : (bytes : List ℕ) (place : Place) → 2 ≤ length bytes → code_of place ≡ get_or bytes 0 0 ∷ get_or bytes 1 0 ∷ []
    → BeginsWith code_of IsAny bytes place (take (length bytes - 2) (drop 2 bytes))
place_read [] place two_bytes found = absurd (omega arith)
place_read (first_letter ∷ []) place two_bytes found = absurd (omega arith)
place_read (first_letter ∷ second_letter ∷ rest) place two_bytes found =
    let whole_rest : take (length (first_letter ∷ second_letter ∷ rest) - 2) rest ≡ rest = take_all (length (first_letter ∷ second_letter ∷ rest) - 2) rest (omega arith) in
    subst (BeginsWith code_of IsAny (first_letter ∷ second_letter ∷ rest) place) (sym whole_rest) (record {
      good = tt;
      spelled = sym (ap (λ code. code ++ rest) found);
      only = λ other_place after valid_place no_digit same_text.
          let split = split_front first_letter second_letter rest (code_of other_place) after (two_letters other_place) same_text in
          (same_code place other_place (found ∙ sym split.0), split.1);
    })
