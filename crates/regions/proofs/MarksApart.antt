-- The bit of an address, and what a mark more changes.
use Rattle.std.proofs.Common.{◌≡◌, ◌≢◌, ◌<◌, ℕ, ◌*◌, ◌%◌, ◌^◌, Bool, true, false, refl, sym, ap, ◌∙◌, subst, arith, w64, ◌⊎◌, inl, inr}
use Rattle.std.specs.Prelude.{◌==◌, bit_or}
use Rattle.std.specs.Int.{bit_at}
use Rattle.std.proofs.lemmas.Bool.{cond-true, cond-false, eq-eqb}
use Rattle.std.proofs.lemmas.Bool.Decides.{nat_tests}
use Rattle.std.proofs.lemmas.Nat.Bits.{bit_at_set_same, bit_at_set_other}
use Rattle.heap_words.specs.declared.config.Config.{Config}
use Rattle.heap_words.specs.Words.{Heap, Grey, IsWord}
use Rattle.regions.specs.Marks.{mark_word, mark_bit, address_at, HasMark, with_mark, MarksAreApart}

pub word_inside : (config : Config) (address : ℕ) → IsWord config (Heap address) → IsWord config (Grey (mark_word config address))
word_inside config address heap = omega (arith, heap.0, heap.1)

pub address_back : (config : Config) (address : ℕ) → IsWord config (Heap address) → address_at config (mark_word config address) (mark_bit config address) ≡ address
address_back config address heap = omega (arith, heap.0)

pub word_back : (config : Config) (word place : ℕ) → place < 64 → mark_word config (address_at config word place) ≡ word
word_back config word place place_below = omega (arith, place_below)

pub bit_back : (config : Config) (word place : ℕ) → place < 64 → mark_bit config (address_at config word place) ≡ place
bit_back config word place place_below = omega (arith, place_below)

-- a bit more in a word, by its place
bit_same : (word place : ℕ) → place < 64 → bit_at (bit_or word (1 * 2 ^ place % 2 ^ 64)) place ≡ 1
bit_same word place place_below = bit_at_set_same w64 word place place_below

bit_stays : (word place kept_place : ℕ) → place < 64 → bit_at word kept_place ≡ 1 → bit_at (bit_or word (1 * 2 ^ place % 2 ^ 64)) kept_place ≡ 1
bit_stays word place kept_place place_below bit_set = by_place (kept_place == place) refl
  where
    by_place : (holds : Bool) → (kept_place == place) ≡ holds → bit_at (bit_or word (1 * 2 ^ place % 2 ^ 64)) kept_place ≡ 1
    by_place true same_place = let compared : kept_place ≡ place = grind (arith, nat_tests) in subst (λ bit. bit_at (bit_or word (1 * 2 ^ place % 2 ^ 64)) bit ≡ 1) (sym compared) (bit_same word place place_below)
    by_place false apart_places = let compared : kept_place ≢ place = grind (arith, nat_tests) in bit_at_set_other w64 word place place_below kept_place compared ∙ bit_set

pub bit_below : (config : Config) (address : ℕ) → mark_bit config address < 64
bit_below config address = omega arith

-- a bit that is set stays so when an address is marked
pub bits_stay : (config : Config) (marks : ℕ → ℕ) (address number place : ℕ) → bit_at (marks number) place ≡ 1 → bit_at (with_mark config marks address number) place ≡ 1
bits_stay config marks address number place bit_set = by_word (mark_word config address == number) refl
  where
    by_word : (holds : Bool) → (mark_word config address == number) ≡ holds → bit_at (with_mark config marks address number) place ≡ 1
    by_word true same_word =
        let same_number : mark_word config address ≡ number = grind (arith, nat_tests) in
        let bit_here : bit_at (marks (mark_word config address)) place ≡ 1 = subst (λ value. bit_at (marks value) place ≡ 1) (sym same_number) bit_set in
        ap (λ value. bit_at value place) (cond-true (mark_word config address == number) _ _ same_word)
        ∙ bit_stays (marks (mark_word config address)) (mark_bit config address) place (bit_below config address) bit_here
    by_word false other_word = ap (λ value. bit_at value place) (cond-false (mark_word config address == number) _ _ other_word) ∙ bit_set

pub mark_set : (config : Config) (marks : ℕ → ℕ) (address : ℕ) → HasMark config (with_mark config marks address) address
mark_set config marks address =
    ap (λ word. bit_at word (mark_bit config address)) (cond-true (mark_word config address == mark_word config address) _ _ (eq-eqb (mark_word config address) (mark_word config address) refl))
    ∙ bit_same (marks (mark_word config address)) (mark_bit config address) (bit_below config address)

-- a mark stays when another one is set
pub mark_stays : (config : Config) (marks : ℕ → ℕ) (address other_address : ℕ) → HasMark config marks other_address → HasMark config (with_mark config marks address) other_address
mark_stays config marks address other_address has_mark = bits_stay config marks address (mark_word config other_address) (mark_bit config other_address) has_mark

-- and no other address is marked by it
pub mark_no_more : (config : Config) (marks : ℕ → ℕ) (address other_address : ℕ) → IsWord config (Heap address) → IsWord config (Heap other_address)
    → HasMark config (with_mark config marks address) other_address → (other_address ≡ address) ⊎ HasMark config marks other_address
mark_no_more config marks address other_address heap other_in_heap has_mark = by_word (mark_word config address == mark_word config other_address) (mark_bit config other_address == mark_bit config address) refl refl
  where
    by_word : (holds bit_holds : Bool) → (mark_word config address == mark_word config other_address) ≡ holds → (mark_bit config other_address == mark_bit config address) ≡ bit_holds → (other_address ≡ address) ⊎ HasMark config marks other_address
    by_word true true same_word bit_test =
        let same_words : mark_word config address ≡ mark_word config other_address = grind (arith, nat_tests) in
        let places : mark_bit config other_address ≡ mark_bit config address = grind (arith, nat_tests) in
        inl (omega (arith, same_words, places, heap.0, other_in_heap.0))
    by_word true false same_word bit_test =
        let same_words : mark_word config address ≡ mark_word config other_address = grind (arith, nat_tests) in
        let places : mark_bit config other_address ≢ mark_bit config address = grind (arith, nat_tests) in
        inr (ap (λ number. bit_at (marks number) (mark_bit config other_address)) (sym same_words)
        ∙ sym (ap (λ number. bit_at number (mark_bit config other_address)) (cond-true (mark_word config address == mark_word config other_address) _ _ same_word)
        ∙ bit_at_set_other w64 (marks (mark_word config address)) (mark_bit config address) (bit_below config address) (mark_bit config other_address) places) ∙ has_mark)
    by_word false bit_holds other_word bit_test = inr (sym (ap (λ number. bit_at number (mark_bit config other_address)) (cond-false (mark_word config address == mark_word config other_address) _ _ other_word)) ∙ has_mark)

pub marks_apart : MarksAreApart
marks_apart = record {
  inside = word_inside;
  back = address_back;
  word = word_back;
  bit = bit_back;
  marked = mark_set;
  stays = mark_stays;
  no_more = mark_no_more;
}
