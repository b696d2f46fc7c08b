-- Texts without a separator, and what joining them gives.
use Rattle.std.proofs.lemmas.Bool.{and_parts}
use Rattle.std.proofs.Common.{◌≡◌, ℕ, ◌<◌, Bool, true, false, cond, eqb, List, [], ◌∷◌, ◌++◌, refl, ap, ◌∙◌, arith}
use Rattle.std.specs.List.{onto_first, list_all, join_with_byte, AllByRecursion}
use Rattle.std.specs.Str.Parse.{AllDigits}
use Rattle.std.specs.Char.{digit_value}
use Rattle.std.proofs.lemmas.Bool.Decides.{nat_tests}
use Rattle.std.proofs.lemmas.List.Folds.{list_all-append}
use Rattle.shen_graph.proofs.Numbers.{eqb_itself}
use Rattle.trace_reading.specs.Causes.{parts}

-- no such byte is among these
abbrev pub is_free : ℕ → List ℕ → Bool
is_free separator bytes = list_all (λ byte. cond (eqb byte separator) false true) bytes

pub free_both : (separator : ℕ) (xs ys : List ℕ) → is_free separator xs ≡ true → is_free separator ys ≡ true → is_free separator (xs ++ ys) ≡ true
free_both separator xs ys left_free right_free = list_all-append (λ byte. cond (eqb byte separator) false true) xs ys ∙ rw (left_free, right_free) refl

other_byte : (byte separator : ℕ) → cond (eqb byte separator) false true ≡ true → eqb byte separator ≡ false
other_byte byte separator byte_differs = by_test (eqb byte separator) refl byte_differs
  where
    by_test : (test : Bool) → eqb byte separator ≡ test → cond test false true ≡ true → test ≡ false
    by_test true tested byte_free = absurd cc
    by_test false tested byte_free = refl

pub parts_at : (separator : ℕ) (xs ys : List ℕ) → is_free separator xs ≡ true → parts separator (xs ++ separator ∷ ys) ≡ xs ∷ parts separator ys
parts_at separator [] ys all_free = rw (eqb_itself separator) refl
parts_at separator (x ∷ xs) ys all_free =
    let free_parts = and_parts (cond (eqb x separator) false true) (is_free separator xs) all_free in
    rw (other_byte x separator free_parts.0) (ap (onto_first x) (parts_at separator xs ys free_parts.1))

pub parts_none : (separator : ℕ) (xs : List ℕ) → is_free separator xs ≡ true → parts separator xs ≡ xs ∷ []
parts_none separator [] all_free = refl
parts_none separator (x ∷ xs) all_free =
    let free_parts = and_parts (cond (eqb x separator) false true) (is_free separator xs) all_free in
    rw (other_byte x separator free_parts.0) (ap (onto_first x) (parts_none separator xs free_parts.1))

-- a word: neither a space nor the end of a line is in it
pub record IsWord (w : List ℕ) : Type 0 where
  pub no_space : is_free 32 w ≡ true
  pub no_end : is_free 10 w ≡ true

-- words joined are cut into the words again
pub parts_again : (word : List ℕ) (words : List (List ℕ)) → AllByRecursion IsWord (word ∷ words) → parts 32 (join_with_byte 32 (word ∷ words)) ≡ word ∷ words
parts_again word [] all_words = parts_none 32 word all_words.0.no_space
parts_again word (next_word ∷ rest) all_words = parts_at 32 word (join_with_byte 32 (next_word ∷ rest)) all_words.0.no_space ∙ ap (λ (words : List (List ℕ)). word ∷ words) (parts_again next_word rest all_words.1)

pub joined_free : (word : List ℕ) (words : List (List ℕ)) → AllByRecursion IsWord (word ∷ words) → is_free 10 (join_with_byte 32 (word ∷ words)) ≡ true
joined_free word [] all_words = all_words.0.no_end
joined_free word (next_word ∷ rest) all_words = free_both 10 word (32 ∷ join_with_byte 32 (next_word ∷ rest)) all_words.0.no_end (joined_free next_word rest all_words.1)

digit_other : (asked_separator byte : ℕ) → asked_separator < 48 → digit_value byte < 10 → cond (eqb byte asked_separator) false true ≡ true
digit_other asked_separator byte low digit = rw (differs asked_separator byte low digit) refl
  where
    differs : (separator byte : ℕ) → separator < 48 → digit_value byte < 10 → eqb byte separator ≡ false
    differs separator byte low digit = grind (arith, nat_tests)

pub free_digits : (separator : ℕ) (digits : List ℕ) → separator < 48 → AllDigits 10 digits → is_free separator digits ≡ true
free_digits separator [] low all_digits = refl
free_digits separator (digit ∷ digits) low all_digits = rw (digit_other separator digit low all_digits.0, free_digits separator digits low all_digits.1) refl
