-- Words that are numbers, and the numbers that they spell.
use Rattle.std.proofs.lemmas.Bool.{and_parts, le-ltb}
use Rattle.std.proofs.Common.{◌≡◌, ℕ, suc, ◌^◌, ◌<◌, ◌≤◌, true, eqb, List, [], ◌∷◌, length, map, Option, Some, None, refl, sym, ap, ◌∙◌, append-nil, arith}
use Rattle.std.specs.List.{AllByRecursion}
use Rattle.std.specs.Fmt.{decimal}
use Rattle.std.specs.Str.Parse.{digits_value}
use Rattle.std.proofs.lemmas.Fmt.{decimal-digits_value, digits_decimal, digits_value-decimal, decimal_nonempty}
use Rattle.shen_graph.proofs.Numbers.{eqb_itself}
use Rattle.trace_reading.specs.Scanning.{digit_count, is_numeral}
use Rattle.trace_reading.proofs.GrammarNumbers.{own, numeral_parts, numeral_made, lone_zero, digit_count-append}
use Rattle.trace_reading.specs.declared.why.Why.{Why}
use Rattle.trace_reading.specs.Causes.{first_cause, is_plain_number, range_cause, number_cause, numbers_cause}
use Rattle.trace_reading.proofs.Words.{number_digits, number_fine}
use Rattle.trace_reading.proofs.Free.{IsWord, free_digits}

-- ---- one number

pub number_spelled : (digits : List ℕ) → is_plain_number digits ≡ true → digits_value 10 digits < 2 ^ 64 → digits ≡ decimal (digits_value 10 digits)
number_spelled digits plain_number small =
    let digit_facts = numeral_parts digits (and_parts (eqb (digit_count digits) (length digits)) (is_numeral digits) plain_number).1 in
    sym (decimal-digits_value own digits (number_digits digits plain_number) digit_facts.0 digit_facts.1 small)

pub decimal_is_number : (number : ℕ) → number < 2 ^ 64 → is_plain_number (decimal number) ≡ true
decimal_is_number number small =
    let count : digit_count (decimal number) ≡ length (decimal number) = ap digit_count (sym (append-nil (decimal number))) ∙ digit_count-append (decimal number) [] (digits_decimal own number small) tt in
    rw (count, eqb_itself (length (decimal number)), numeral_made (decimal number) (decimal_nonempty number small) (lone_zero number small)) refl

pub decimal_word : (number : ℕ) → number < 2 ^ 64 → IsWord (decimal number)
decimal_word number small = record { no_space = free_digits 32 (decimal number) (omega arith) (digits_decimal own number small); no_end = free_digits 10 (decimal number) (omega arith) (digits_decimal own number small) }

pub range_again : (least most number : ℕ) → number < 2 ^ 64 → least ≤ number → number ≤ most → range_cause least most (decimal number) ≡ None
unfolding range_cause
range_again least most number small low high =
    let value : digits_value 10 (decimal number) ≡ number = digits_value-decimal own number small in
    rw (value, le-ltb number least low, le-ltb most number high) refl

pub number_again : (least most number : ℕ) → number < 2 ^ 64 → least ≤ number → number ≤ most → number_cause least most (decimal number) ≡ None
unfolding number_cause
number_again least most number small low high = rw (decimal_is_number number small) (range_again least most number small low high)

-- ---- numbers

-- ranges of 64 bits
abbrev pub AreSmallRanges : List (ℕ × ℕ) → Type 0
AreSmallRanges [] = Unit {0}
AreSmallRanges (range ∷ ranges) = (range.1 < 2 ^ 64) × AreSmallRanges ranges

-- each number is in its range
abbrev pub AreBetween : List (ℕ × ℕ) → List ℕ → Type 0
AreBetween [] [] = Unit {0}
AreBetween [] (value ∷ values) = ⊥
AreBetween (range ∷ ranges) [] = ⊥
AreBetween (range ∷ ranges) (value ∷ values) = (range.0 ≤ value) × (value ≤ range.1) × AreBetween ranges values

pub none_first : (one_cause later_cause : Option Why) → first_cause one_cause later_cause ≡ None → (one_cause ≡ None) × (later_cause ≡ None)
none_first None later_cause no_cause = (refl, no_cause)
none_first (Some why) later_cause no_cause = absurd cc

pub numbers_spelled : (ranges : List (ℕ × ℕ)) (word_list : List (List ℕ)) → AreSmallRanges ranges → length word_list ≡ length ranges → numbers_cause ranges word_list ≡ None → (values : List ℕ) × (word_list ≡ map decimal values) × AreBetween ranges values
unfolding numbers_cause
numbers_spelled [] [] small count no_cause = ([], refl, tt)
numbers_spelled [] (first_word ∷ word_list) small count no_cause = absurd (omega (arith, count))
numbers_spelled (range ∷ ranges) [] small count no_cause = absurd (omega (arith, count))
numbers_spelled (range ∷ ranges) (digits ∷ rest) small count no_cause =
    let both_none = none_first (number_cause range.0 range.1 digits) (numbers_cause ranges rest) no_cause in
    let first_fine = number_fine range.0 range.1 digits both_none.0 in
    let others = numbers_spelled ranges rest small.1 (omega (arith, count)) both_none.1 in
    let first_value = digits_value 10 digits in
    let spelled : digits ≡ decimal first_value = number_spelled digits first_fine.0 (omega (arith, first_fine.2, small.0)) in
    (first_value ∷ others.0, ap (λ (given_word : List ℕ). given_word ∷ rest) spelled ∙ ap (λ (given_words : List (List ℕ)). decimal first_value ∷ given_words) others.1, (first_fine.1, first_fine.2, others.2))

pub numbers_again : (ranges : List (ℕ × ℕ)) (values : List ℕ) → AreSmallRanges ranges → AreBetween ranges values → numbers_cause ranges (map decimal values) ≡ None
unfolding numbers_cause
numbers_again [] [] small between = refl
numbers_again [] (value ∷ values) small between = absurd between
numbers_again (range ∷ ranges) [] small between = absurd between
numbers_again (range ∷ ranges) (value ∷ values) small between =
    rw (number_again range.0 range.1 value (omega (arith, between.1, small.0)) between.0 between.1) (numbers_again ranges values small.1 between.2)

pub numbers_length : (ranges : List (ℕ × ℕ)) (values : List ℕ) → AreBetween ranges values → length (map decimal values) ≡ length ranges
numbers_length [] [] between = refl
numbers_length [] (value ∷ values) between = absurd between
numbers_length (range ∷ ranges) [] between = absurd between
numbers_length (range ∷ ranges) (value ∷ values) between = ap suc (numbers_length ranges values between.2)

pub numbers_words : (ranges : List (ℕ × ℕ)) (values : List ℕ) → AreSmallRanges ranges → AreBetween ranges values → AllByRecursion IsWord (map decimal values)
numbers_words [] [] small between = tt
numbers_words [] (value ∷ values) small between = absurd between
numbers_words (range ∷ ranges) [] small between = absurd between
numbers_words (range ∷ ranges) (value ∷ values) small between = (decimal_word value (omega (arith, between.1, small.0)), numbers_words ranges values small.1 between.2)
