-- Words of mark bits, bit by bit.
use Rattle.std.proofs.Common.{◌≡◌, ℕ, ◌+◌, ◌-◌, ◌*◌, ◌^◌, ◌<◌, ◌≤◌, cond, Bool, true, false, zero, suc, ⊎_elim, refl, sym, ap, ◌∙◌, arith}
use Rattle.std.specs.Int.{bit_at}
use Rattle.std.proofs.lemmas.Bool.{cases_lt}
use Rattle.std.proofs.lemmas.Nat.Bits.{bit_at_cat_low, bit_at_cat_high}
use Rattle.std.proofs.Math.Nat.{pow-suc}
use Rattle.heap_words.specs.declared.config.Config.{Config}
use Rattle.regions.specs.Marks.{mark_word, mark_bit}
use Rattle.cycle_words.specs.Marking.Marks.{bits_of, mark_bits}

abbrev pub one : Bool → ℕ
one holds = cond holds 1 0

pub bits_small : (test : ℕ → Bool) (first count : ℕ) → bits_of test first count < 2 ^ count
unfolding bits_of
bits_small test first zero = omega arith
bits_small test first (suc lower_count) =
    let bits_less = more (test (first + lower_count)) (bits_of test first lower_count) (2 ^ lower_count) (bits_small test first lower_count) in
    let double : 2 ^ suc lower_count ≡ 2 ^ lower_count * 2 = pow-suc 2 lower_count in
    omega (arith, bits_less, double)
  where
    more : (holds : Bool) (x y : ℕ) → x < y → one holds * y + x < 2 * y
    more true x y bits_less = omega (arith, bits_less)
    more false x y bits_less = omega (arith, bits_less)

pub bits_at : (test : ℕ → Bool) (first count place : ℕ) → place < count → bit_at (bits_of test first count) place ≡ one (test (first + place))
unfolding bits_of
bits_at test first zero place place_below = absurd (omega (arith, place_below))
bits_at test first (suc lower_count) place place_below = ⊎_elim
    (λ (lower : place < lower_count). bit_at_cat_low (one (test (first + lower_count))) lower_count (bits_of test first lower_count) place lower ∙ bits_at test first lower_count place lower)
    (λ (last_place : lower_count ≤ place).
    let same_place : place ≡ lower_count = omega (arith, last_place, place_below) in
    let no_offset : lower_count - lower_count ≡ 0 = omega arith in
    ap (bit_at (one (test (first + lower_count)) * 2 ^ lower_count + bits_of test first lower_count)) same_place
    ∙ bit_at_cat_high (one (test (first + lower_count))) lower_count (bits_of test first lower_count) lower_count (bits_small test first lower_count) (omega arith)
    ∙ ap (bit_at (one (test (first + lower_count)))) no_offset
    ∙ lowest (test (first + lower_count))
    ∙ ap (λ x. one (test (first + x))) (sym same_place))
    (cases_lt place lower_count)
  where
    lowest : (holds : Bool) → bit_at (one holds) 0 ≡ one holds
    lowest true = refl
    lowest false = refl

-- an address by its word and bit
pub address_again : (config : Config) (address : ℕ) → config.region_words ≤ address → config.region_words + 64 * mark_word config address + mark_bit config address ≡ address
address_again config address address_above = omega (arith, address_above)

-- whether an address of a set has its bit
pub mark_at : (config : Config) (set : ℕ → Bool) (address : ℕ) → config.region_words ≤ address → bit_at (mark_bits config set (mark_word config address)) (mark_bit config address) ≡ one (set address)
mark_at config set address address_above =
    bits_at set (config.region_words + 64 * mark_word config address) 64 (mark_bit config address) (omega arith) ∙ ap (λ x. one (set x)) (address_again config address address_above)
