-- The two laws of each reader of numbers: what is read was spelled so, and what is spelled so is read.
use Rattle.std.proofs.lemmas.Option.{same_Some}
use Rattle.std.proofs.Common.{◌≡◌, ℕ, zero, suc, ◌^◌, ◌<◌, ◌≤◌, Bool, true, false, cond, eqb, ltb, List, [], ◌∷◌, ◌++◌, length, get_or, take, drop, Option, Some, None, refl, sym, ap, subst, ◌∙◌, append_assoc, arith}
use Rattle.std.specs.Fmt.{decimal}
use Rattle.std.specs.Char.{is_ascii_digit, digit_value}
use Rattle.std.specs.Str.Parse.{AllDigits, digits_value}
use Rattle.std.proofs.lemmas.Bool.{eqb-true, ltb-false, le-ltb}
use Rattle.std.proofs.lemmas.Bool.Decides.{nat_tests}
use Rattle.std.proofs.lemmas.List.{take-append-drop, take_at, drop_at}
use Rattle.std.proofs.lemmas.List.Concat.{flat_map-cons}
use Rattle.std.proofs.lemmas.Str.Parse.{IsNumeralModel, numerals_by_value, tells_digits}
use Rattle.std.proofs.lemmas.Fmt.{decimal-digits_value, digits_decimal, digits_value-decimal, decimal_nonempty, first_decimal, decimal_digit}
use Rattle.shen_graph.proofs.Options.{not_stopped}
use Rattle.shen_graph.proofs.Numbers.{eqb_itself}
use Rattle.trace_reading.specs.Spelling.{numbers, space}
use Rattle.trace_reading.specs.Kinds.{AreWithinLimits}
use Rattle.trace_reading.specs.Scanning.{◌>>=◌, behind, digit_count, is_numeral, numeral, spelled_number, positive_at, spaced_at, numbers_at}
use Rattle.trace_reading.specs.Front.{NoDigit}
use Rattle.trace_reading.proofs.Digits.{digits_are_digits}

-- the value of a step that gave something
pub bind_some : {A B : Type 0} (found : Option A) (f : A → Option B) (y : B) → (found >>= f) ≡ Some y → (x : A) × (found ≡ Some x) × (f x ≡ Some y)
bind_some (Some x) f y some_bound = (x, refl, some_bound)
bind_some None f y some_bound = absurd cc

pub then_some : {A B P : Type 0} (found : Option A) (f : A → Option B) (y : B) → (found >>= f) ≡ Some y → ((x : A) → found ≡ Some x → f x ≡ Some y → P) → P
then_some (Some x) f y some_bound with_value = with_value x refl some_bound
then_some None f y some_bound with_value = absurd cc

-- a test that let pass
pub passed : {A : Type 0} (holds : Bool) (found : Option A) (y : A) → cond holds found None ≡ Some y → (holds ≡ true) × (found ≡ Some y)
passed true found y some_result = (refl, some_result)
passed false found y some_result = absurd cc

-- ---- texts

pub behind_takes : (text bytes rest : List ℕ) → behind text bytes ≡ Some rest → bytes ≡ text ++ rest
behind_takes [] bytes rest found = same_Some bytes rest found
behind_takes (text_byte ∷ text) [] rest found = absurd cc
behind_takes (text_byte ∷ text) (byte ∷ bytes) rest found =
    let both_pass = passed (eqb byte text_byte) (behind text bytes) rest found in
    let same_byte : byte ≡ text_byte = eqb-true byte text_byte both_pass.0 in
    rw same_byte (ap (λ (read_bytes : List ℕ). text_byte ∷ read_bytes) (behind_takes text bytes rest both_pass.1))

pub behind_again : (text rest : List ℕ) → behind text (text ++ rest) ≡ Some rest
behind_again [] rest = refl
behind_again (text_byte ∷ text) rest = rw (eqb_itself text_byte) (behind_again text rest)

-- ---- one number

pub own : IsNumeralModel (AllDigits 10) (digits_value 10)
own = numerals_by_value (AllDigits 10) tells_digits

digit_passes : (byte : ℕ) → digit_value byte < 10 → is_ascii_digit byte ≡ true
digit_passes byte small_value = grind (arith, nat_tests)

pub digit_count-append : (digits rest : List ℕ) → AllDigits 10 digits → NoDigit rest → digit_count (digits ++ rest) ≡ length digits
digit_count-append [] [] all_digits no_digit = refl
digit_count-append [] (byte ∷ rest) all_digits no_digit = rw no_digit refl
digit_count-append (digit ∷ digits) rest all_digits no_digit = rw (digit_passes digit all_digits.0, digit_count-append digits rest all_digits.1 no_digit) (omega arith)

pub numeral_parts : (digits : List ℕ) → is_numeral digits ≡ true → (0 < length digits) × (get_or digits 0 0 ≡ 48 → length digits ≡ 1)
numeral_parts digits numeral_passes = (grind (arith, nat_tests), λ zero. grind (arith, nat_tests))

pub numeral_made : (digits : List ℕ) → 0 < length digits → (get_or digits 0 0 ≡ 48 → length digits ≡ 1) → is_numeral digits ≡ true
numeral_made digits positive lone = grind (arith, nat_tests)

pub lone_zero : (number : ℕ) → number < 2 ^ 64 → get_or (decimal number) 0 0 ≡ 48 → length (decimal number) ≡ 1
lone_zero zero small leading_zero = ap length (decimal_digit 0 (omega arith))
lone_zero (suc number) small leading_zero = absurd (omega (arith, first_decimal (suc number) (omega arith) small))

pub numbers-cons : (number : ℕ) (given_numbers rest : List ℕ) → numbers (number ∷ given_numbers) ++ rest ≡ 32 ∷ (decimal number ++ (numbers given_numbers ++ rest))
numbers-cons number given_numbers rest = ap (λ (read_bytes : List ℕ). read_bytes ++ rest) (flat_map-cons (λ given_number. space ∷ decimal given_number) number given_numbers) ∙ append_assoc (32 ∷ decimal number) (numbers given_numbers) rest

-- a space is no digit
no_digit : (given_numbers rest : List ℕ) → NoDigit rest → NoDigit (numbers given_numbers ++ rest)
no_digit [] rest digit_free = digit_free
no_digit (number ∷ given_numbers) rest digit_free = subst NoDigit (sym (numbers-cons number given_numbers rest)) refl

numeral_takes : (limit : ℕ) (digits : List ℕ) (number : ℕ) → limit < 2 ^ 64 → AllDigits 10 digits → numeral limit digits ≡ Some number → (digits ≡ decimal number) × (number ≤ limit)
unfolding numeral
numeral_takes limit digits number small all_digits found =
    let numeral_passed = passed (is_numeral digits) (cond (ltb limit (digits_value 10 digits)) None (Some (digits_value 10 digits))) number found in
    let within_limit = not_stopped (ltb limit (digits_value 10 digits)) (Some (digits_value 10 digits)) number numeral_passed.1 in
    let value_within : digits_value 10 digits ≤ limit = ltb-false _ _ within_limit.0 in
    let same_value : digits_value 10 digits ≡ number = same_Some _ _ within_limit.1 in
    let numeral_shape = numeral_parts digits numeral_passed.0 in
    let spelled : decimal (digits_value 10 digits) ≡ digits = decimal-digits_value own digits all_digits numeral_shape.0 numeral_shape.1 (omega arith) in
    (sym spelled ∙ ap decimal same_value, omega arith)

numeral_again : (limit number : ℕ) → number ≤ limit → limit < 2 ^ 64 → numeral limit (decimal number) ≡ Some number
unfolding numeral
numeral_again limit number number_within small =
    let value : digits_value 10 (decimal number) ≡ number = digits_value-decimal own number (omega arith) in
    rw (numeral_made (decimal number) (decimal_nonempty number (omega arith)) (lone_zero number (omega arith)), value, le-ltb limit number number_within) refl

pub number_takes : (limit : ℕ) (bytes : List ℕ) (taken : ℕ × List ℕ) → limit < 2 ^ 64 → spelled_number limit bytes ≡ Some taken → (bytes ≡ decimal taken.0 ++ taken.1) × (taken.0 ≤ limit)
unfolding spelled_number
number_takes limit bytes taken small found =
    let found_value = bind_some (numeral limit (take (digit_count bytes) bytes)) (λ value. Some (value, drop (digit_count bytes) bytes)) taken found in
    let numeral_taken = numeral_takes limit (take (digit_count bytes) bytes) found_value.0 small (digits_are_digits bytes) found_value.1 in
    let made : ℕ × List ℕ = (found_value.0, drop (digit_count bytes) bytes) in
    subst (λ (candidate : ℕ × List ℕ). (bytes ≡ decimal candidate.0 ++ candidate.1) × (candidate.0 ≤ limit)) (same_Some made taken found_value.2) (sym (take-append-drop (digit_count bytes) bytes) ∙ ap (λ (digits : List ℕ). digits ++ drop (digit_count bytes) bytes) numeral_taken.0, numeral_taken.1)

pub number_again : (limit number : ℕ) (rest : List ℕ) → number ≤ limit → limit < 2 ^ 64 → NoDigit rest → spelled_number limit (decimal number ++ rest) ≡ Some (number, rest)
unfolding spelled_number
number_again limit number rest number_within small no_digit =
    let count : digit_count (decimal number ++ rest) ≡ length (decimal number) = digit_count-append (decimal number) rest (digits_decimal own number (omega arith)) no_digit in
    rw (count, take_at (decimal number) rest, drop_at (decimal number) rest, numeral_again limit number number_within small) refl

-- ---- a number from 1 on

pub positive_takes : (limit : ℕ) (bytes : List ℕ) (taken : ℕ × List ℕ) → limit < 2 ^ 64 → positive_at limit bytes ≡ Some taken → (bytes ≡ decimal taken.0 ++ taken.1) × (1 ≤ taken.0) × (taken.0 ≤ limit)
unfolding positive_at
positive_takes limit bytes taken small found =
    let found_value = bind_some (spelled_number limit bytes) (λ number_read. cond (eqb number_read.0 0) None (Some number_read)) taken found in
    let nonzero_value = not_stopped (eqb found_value.0.0 0) (Some found_value.0) taken found_value.2 in
    let number_taken = number_takes limit bytes found_value.0 small found_value.1 in
    let positive : 1 ≤ found_value.0.0 = above_zero found_value.0.0 nonzero_value.0 in
    subst (λ (candidate : ℕ × List ℕ). (bytes ≡ decimal candidate.0 ++ candidate.1) × (1 ≤ candidate.0) × (candidate.0 ≤ limit)) (same_Some found_value.0 taken nonzero_value.1) (number_taken.0, positive, number_taken.1)
  where
    above_zero : (number : ℕ) → eqb number 0 ≡ false → 1 ≤ number
    above_zero number nonzero = grind (arith, nat_tests)

pub positive_again : (limit n : ℕ) (rest : List ℕ) → 1 ≤ n → n ≤ limit → limit < 2 ^ 64 → NoDigit rest → positive_at limit (decimal n ++ rest) ≡ Some (n, rest)
unfolding positive_at
positive_again limit n rest positive number_within small no_digit = rw (number_again limit n rest number_within small no_digit, not_zero n positive) refl
  where
    not_zero : (number : ℕ) → 1 ≤ number → eqb number 0 ≡ false
    not_zero number positive = grind (arith, nat_tests)

-- ---- a number after a space

pub spaced_takes : (limit : ℕ) (bytes : List ℕ) (taken : ℕ × List ℕ) → limit < 2 ^ 64 → spaced_at limit bytes ≡ Some taken → (bytes ≡ 32 ∷ (decimal taken.0 ++ taken.1)) × (taken.0 ≤ limit)
unfolding spaced_at
spaced_takes limit bytes taken small found =
    let found_value = bind_some (behind (32 ∷ []) bytes) (spelled_number limit) taken found in
    let number_taken = number_takes limit found_value.0 taken small found_value.2 in
    (behind_takes (32 ∷ []) bytes found_value.0 found_value.1 ∙ ap (λ (read_bytes : List ℕ). 32 ∷ read_bytes) number_taken.0, number_taken.1)

pub spaced_again : (limit number : ℕ) (rest : List ℕ) → number ≤ limit → limit < 2 ^ 64 → NoDigit rest → spaced_at limit (32 ∷ (decimal number ++ rest)) ≡ Some (number, rest)
unfolding spaced_at
spaced_again limit number rest number_within small no_digit = number_again limit number rest number_within small no_digit

-- ---- numbers

-- limits that 64 bits hold
abbrev pub AreSmall : List ℕ → Type 0
AreSmall [] = Unit {0}
AreSmall (limit ∷ limits) = (limit < 2 ^ 64) × AreSmall limits

pub numbers_take : (limits bytes : List ℕ) (taken : List ℕ × List ℕ) → AreSmall limits → numbers_at limits bytes ≡ Some taken → (bytes ≡ numbers taken.0 ++ taken.1) × AreWithinLimits limits taken.0
unfolding numbers_at
numbers_take [] bytes taken small found =
    let made : List ℕ × List ℕ = ([], bytes) in
    subst (λ (candidate : List ℕ × List ℕ). (bytes ≡ numbers candidate.0 ++ candidate.1) × AreWithinLimits [] candidate.0) (same_Some made taken found) (refl, tt)
numbers_take (limit ∷ limits) bytes taken small found =
    let first_value = bind_some (spaced_at limit bytes) (λ first_read. numbers_at limits first_read.1 >>= λ numbers_read. Some (first_read.0 ∷ numbers_read.0, numbers_read.1)) taken found in
    let later_values = bind_some (numbers_at limits first_value.0.1) (λ numbers_read. Some (first_value.0.0 ∷ numbers_read.0, numbers_read.1)) taken first_value.2 in
    let first_taken = spaced_takes limit bytes first_value.0 small.0 first_value.1 in
    let others = numbers_take limits first_value.0.1 later_values.0 small.1 later_values.1 in
    let made : List ℕ × List ℕ = (first_value.0.0 ∷ later_values.0.0, later_values.0.1) in
    let spelled : bytes ≡ numbers made.0 ++ made.1 = first_taken.0 ∙ ap (λ (read_bytes : List ℕ). 32 ∷ (decimal first_value.0.0 ++ read_bytes)) others.0 ∙ sym (numbers-cons first_value.0.0 later_values.0.0 later_values.0.1) in
    subst (λ (candidate : List ℕ × List ℕ). (bytes ≡ numbers candidate.0 ++ candidate.1) × AreWithinLimits (limit ∷ limits) candidate.0) (same_Some made taken later_values.2) (spelled, (first_taken.1, others.1))

pub numbers_again : (limits given_numbers rest : List ℕ) → AreWithinLimits limits given_numbers → AreSmall limits → NoDigit rest → numbers_at limits (numbers given_numbers ++ rest) ≡ Some (given_numbers, rest)
unfolding numbers_at
numbers_again [] [] rest le-ltb small digit_free = refl
numbers_again [] (number ∷ given_numbers) rest le-ltb small digit_free = absurd le-ltb
numbers_again (limit ∷ limits) [] rest le-ltb small digit_free = absurd le-ltb
numbers_again (limit ∷ limits) (number ∷ given_numbers) rest le-ltb small digit_free =
    ap (numbers_at (limit ∷ limits)) (numbers-cons number given_numbers rest) ∙ rw (spaced_again limit number (numbers given_numbers ++ rest) le-ltb.0 small.0 (no_digit given_numbers rest digit_free), numbers_again limits given_numbers rest le-ltb.1 small.1 digit_free) refl
