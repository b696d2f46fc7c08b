-- The lowest address of a word that is grey and not black.
use Rattle.std.proofs.Common.{◌≡◌, ◌≢◌, ◌<◌, ℕ, ◌-◌, ◌^◌, sym, ap, ◌∙◌, subst, arith, w64}
use Rattle.std.specs.Prelude.{min}
use Rattle.std.specs.Int.{bit_at, bit_not, trailing_zeros}
use Rattle.std.proofs.lemmas.Nat.{and_le_l}
use Rattle.std.proofs.lemmas.Nat.Bits.{bit_at_and, bit_at_not, bit_at-lt, bit_at-zero, bit_at-trailing_zeros}
use Rattle.heap_words.specs.declared.config.Config.{Config}
use Rattle.regions.specs.Marks.{mark_bit, lowest_address}
use Rattle.regions.proofs.MarksApart.{word_back, bit_back}
use Rattle.unit_part.specs.ScanRows.{unscanned_in}
use Rattle.unit_part.specs.Unscanned.{IsUnscanned, IsNextUnscanned, UnscannedIsFound}

-- the lesser of a bit and of another one's opposite is 1 where the one is 1 and the other 0
bits_then : (unscanned grey_bit opposite black_bit : ℕ) → unscanned ≡ min grey_bit opposite → opposite ≡ 1 - black_bit → grey_bit < 2 → black_bit < 2 → unscanned ≡ 1 → (grey_bit ≡ 1) × (black_bit ≡ 0)
bits_then unscanned grey_bit opposite black_bit unscanned_bit turns one_bit black_small bit_set = (omega (arith, unscanned_bit, turns, one_bit, black_small, bit_set), omega (arith, unscanned_bit, turns, one_bit, black_small, bit_set))

bits_since : (unscanned grey_bit opposite black_bit : ℕ) → unscanned ≡ min grey_bit opposite → opposite ≡ 1 - black_bit → grey_bit ≡ 1 → black_bit ≡ 0 → unscanned ≡ 1
bits_since unscanned grey_bit opposite black_bit unscanned_bit turns grey_set clear = omega (arith, unscanned_bit, turns, grey_set, clear)

-- a bit of the unscanned is 1 exactly where it is grey and not black
pub unscanned_is : (grey black bit : ℕ) → black < 2 ^ 64 → bit < 64 → bit_at (unscanned_in grey black) bit ≡ 1 → IsUnscanned grey black bit
unscanned_is grey black bit fits bit_below bit_set =
    let both_bits = bits_then (bit_at (unscanned_in grey black) bit) (bit_at grey bit) (bit_at (bit_not w64 black) bit) (bit_at black bit)
    (bit_at_and grey (bit_not w64 black) bit) (bit_at_not w64 black bit fits bit_below) (bit_at-lt grey bit) (bit_at-lt black bit) bit_set in
    record { is_grey = both_bits.0; not_black = both_bits.1 }

pub is_unscanned : (grey black bit : ℕ) → black < 2 ^ 64 → bit < 64 → IsUnscanned grey black bit → bit_at (unscanned_in grey black) bit ≡ 1
is_unscanned grey black bit fits bit_below unscanned =
    bits_since (bit_at (unscanned_in grey black) bit) (bit_at grey bit) (bit_at (bit_not w64 black) bit) (bit_at black bit)
    (bit_at_and grey (bit_not w64 black) bit) (bit_at_not w64 black bit fits bit_below) unscanned.is_grey unscanned.not_black

next_unscanned : (config : Config) (word grey black : ℕ) → grey < 2 ^ 64 → black < 2 ^ 64 → unscanned_in grey black ≢ 0
    → IsNextUnscanned config word grey black (lowest_address config word (unscanned_in grey black))
next_unscanned config word grey black grey_fits black_fits positive =
    let fits : unscanned_in grey black < 2 ^ 64 = omega (arith, and_le_l grey (bit_not w64 black), grey_fits) in
    let lowest = bit_at-trailing_zeros w64 (unscanned_in grey black) (omega (arith, positive)) fits in
    let bit : mark_bit config (lowest_address config word (unscanned_in grey black)) ≡ trailing_zeros w64 (unscanned_in grey black) = bit_back config word (trailing_zeros w64 (unscanned_in grey black)) lowest.0 in
    record {
      in_word = word_back config word (trailing_zeros w64 (unscanned_in grey black)) lowest.0;
      unscanned = subst (λ bit. IsUnscanned grey black bit) (sym bit) (unscanned_is grey black (trailing_zeros w64 (unscanned_in grey black)) black_fits lowest.0 lowest.1);
      none_lower = λ lower_bit index_below unscanned.
          let bit_lower : lower_bit < trailing_zeros w64 (unscanned_in grey black) = subst (λ bound. lower_bit < bound) bit index_below in
          let zero = lowest.2 lower_bit bit_lower in
          let bit_set = is_unscanned grey black lower_bit black_fits (omega (arith, bit_lower, lowest.0)) unscanned in
          omega (arith, zero, bit_set);
    }

none_unscanned : (grey black bit : ℕ) → black < 2 ^ 64 → unscanned_in grey black ≡ 0 → bit < 64 → IsUnscanned grey black bit → ⊥
none_unscanned grey black bit fits none_set bit_below unscanned =
    let bit_set = is_unscanned grey black bit fits bit_below unscanned in
    let zero : bit_at (unscanned_in grey black) bit ≡ 0 = ap (λ bits. bit_at bits bit) none_set ∙ bit_at-zero bit in
    omega (arith, zero, bit_set)

pub unscanned_found : UnscannedIsFound
unscanned_found = record { next = next_unscanned; none = none_unscanned }
