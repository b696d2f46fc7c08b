-- Digits at the front of bytes.
use Rattle.std.proofs.Common.{◌≡◌, ℕ, ◌+◌, ◌-◌, ◌*◌, suc, ◌<◌, Bool, true, false, cond, eqb, List, [], ◌∷◌, length, get_or, take, drop, Option, Some, None, MatchOption, refl, ap, ◌∙◌, arith}
use Rattle.std.specs.Int.{IsInRange}
use Rattle.std.specs.Option.{option_map}
use Rattle.std.specs.Cmp.Lexicographic.{pointwise}
use Rattle.std.specs.Char.{is_ascii_digit, digit_value}
use Rattle.std.specs.Str.Parse.{AllDigits, digits_value}
use Rattle.std.proofs.lemmas.Bool.Decides.{nat_tests}
use Rattle.std.proofs.lemmas.Int.Digits.{digits_value_more}
use Rattle.std.proofs.lemmas.Str.Parse.{digit_at}
use Rattle.trace_reading.specs.Scanning.{behind, digit_count}

-- what is behind a text, by a comparison of the front with it
pub behind_by_front : (text bytes : List ℕ) → behind text bytes ≡ cond (pointwise eqb (take (length text) bytes) text) (Some (drop (length text) bytes)) None
behind_by_front [] bytes = refl
behind_by_front (letter ∷ text) [] = refl
behind_by_front (letter ∷ text) (byte ∷ bytes) = by_first (eqb byte letter) (pointwise eqb (take (length text) bytes) text) (behind text bytes) (Some (drop (length text) bytes)) (behind_by_front text bytes)
  where
    by_first : (first_same others : Bool) (found later_found : Option (List ℕ)) → found ≡ cond others later_found None → cond first_same found None ≡ cond (mathlib.Core.Bool.◌&&◌ first_same others) later_found None
    by_first true others found later_found found_behind = found_behind
    by_first false others found later_found found_behind = refl

pub digit_is_digit : (byte : ℕ) → is_ascii_digit byte ≡ true → digit_value byte < 10
digit_is_digit byte is_digit = grind (arith, nat_tests)

one-add : (n : ℕ) → 1 + n ≡ suc n
one-add n = omega arith

pub value_of_digit : (byte : ℕ) → IsInRange 48 57 byte → digit_value byte ≡ byte - 48
value_of_digit byte in_range = grind (arith, nat_tests)

-- the digits at the front are digits
pub digits_are_digits : (bytes : List ℕ) → AllDigits 10 (take (digit_count bytes) bytes)
digits_are_digits [] = tt
digits_are_digits (byte ∷ bytes) = by_first (is_ascii_digit byte) refl (digits_are_digits bytes)
  where
    by_first : (first_digit : Bool) → is_ascii_digit byte ≡ first_digit → AllDigits 10 (take (digit_count bytes) bytes) → AllDigits 10 (take (cond first_digit (1 + digit_count bytes) 0) (byte ∷ bytes))
    by_first false digit_test all_digits = tt
    by_first true digit_test all_digits = rw one-add (digit_is_digit byte digit_test, all_digits)

-- what a comparison of the front answered
pub stripped : {R : Type 0} (bytes_now : R → List ℕ) (found : Option R) (same_front : Bool) (rest : List ℕ) (size : R → Type 0) → MatchOption found (same_front ≡ false) (λ rest_found. (same_front ≡ true) × (bytes_now rest_found ≡ rest) × size rest_found) → option_map bytes_now found ≡ cond same_front (Some rest) None
stripped bytes_now None same_front rest size match_option = rw match_option refl
stripped bytes_now (Some rest_found) same_front rest size match_option = rw (match_option.0, match_option.1) refl

-- one digit more
pub value_more : (digits : List ℕ) (index : ℕ) → AllDigits 10 digits → index < length digits → digits_value 10 (take (index + 1) digits) ≡ digits_value 10 (take index digits) * 10 + (get_or digits index 0 - 48)
value_more digits index all_digits index_below = digits_value_more 10 digits index index_below ∙ ap (λ digit. digits_value 10 (take index digits) * 10 + digit) (value_of_digit _ (digit_at digits index all_digits index_below))
