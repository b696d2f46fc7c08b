-- A word as a set of regions: its lowest member, and how many members it has.
use Rattle.std.proofs.Common.{◌≡◌, ◌≢◌, ◌↔◌, ℕ, ◌+◌, ◌-◌, ◌*◌, ◌%◌, ◌^◌, ◌<◌, ◌≤◌, refl, sym, ap, ◌∙◌, subst, ⊎_elim, arith, zero, suc, w64}
use Rattle.std.proofs.Math.Pow.{pow-lt}
use Rattle.std.specs.Int.{bit_at, trailing_zeros}
use Rattle.std.specs.Int.Count.{ones}
use Rattle.std.proofs.lemmas.Nat.{ones_cat, mod-pow-add, mod_below, pow_pos, one_shl}
use Rattle.std.proofs.lemmas.Bool.{cases_lt}
use Rattle.std.proofs.lemmas.Nat.Bits.{bit_at-trailing_zeros, bit_at-lt, bit_at_not, bit_at_above, bit_at-pow_same, bit_at-pow_other}
use Rattle.regions.specs.Sets.{IsIn, IsLowest, members_below, all_but}

-- the lowest 1 of a word is its lowest member
pub lowest_member : (set : ℕ) → 0 < set → set < 2 ^ 64 → IsLowest set (trailing_zeros w64 set)
lowest_member set some_set set_fits =
    let lowest = bit_at-trailing_zeros w64 set some_set set_fits in
    record { member = lowest.1; none_lower = lowest.2; in_word = lowest.0 }

-- one digit has as many ones as it says
ones_digit : (digit : ℕ) → digit < 2 → ones digit ≡ digit
unfolding ones
ones_digit zero digit_below = refl
ones_digit (suc zero) digit_below = refl
ones_digit (suc (suc n)) digit_below = absurd (omega arith)

-- the ones of the low digits are the members among the low regions
pub ones-low : (set digits : ℕ) → ones (set % 2 ^ digits) ≡ members_below set digits
unfolding members_below
ones-low set zero = ap ones (omega arith) ∙ ones_digit 0 (omega arith)
ones-low set (suc digits) =
    let one_more : suc digits ≡ 1 + digits = omega arith in
    let top_digit = bit_at-lt set digits in
    ap (λ (number : ℕ). ones (set % 2 ^ number)) one_more
    ∙ ap ones (mod-pow-add set 1 digits)
    ∙ ones_cat digits (bit_at set digits) (set % 2 ^ digits) (mod_below set (2 ^ digits) (pow_pos digits))
    ∙ omega (arith, ones_digit (bit_at set digits) top_digit, ones-low set digits)

-- the ones of a word are its members
pub ones-members : (set : ℕ) → set < 2 ^ 64 → ones set ≡ members_below set 64
ones-members set set_fits = ap ones (omega arith) ∙ ones-low set 64

-- the empty set has no members
pub no_members : members_below 0 64 ≡ 0
unfolding ones
no_members = sym (ones-members 0 (omega arith))

-- the set of all regions but one is the 64-bit word without its bit
bit_at-all_but : (region other_region : ℕ) → region < 64 → other_region < 64 → bit_at (all_but region) other_region ≡ 1 - bit_at (2 ^ region) other_region
bit_at-all_but region other_region region_below region_within =
    let small_power : 1 * 2 ^ region % 2 ^ 64 ≡ 2 ^ region = one_shl region 64 region_below in
    let power_fits : 1 * 2 ^ region % 2 ^ 64 < 2 ^ 64 = subst (λ power. power < 2 ^ 64) (sym small_power) (pow-lt region_below) in
    bit_at_not w64 (1 * 2 ^ region % 2 ^ 64) other_region power_fits region_within ∙ ap (λ power. 1 - bit_at power other_region) small_power

-- a region is in it exactly where it is another region
pub all_but_members : (region : ℕ) → region < 64 → (other_region : ℕ) → IsIn (all_but region) other_region ↔ ((other_region < 64) × (other_region ≢ region))
all_but_members region region_below other_region = (to, from) where
  to : IsIn (all_but region) other_region → (other_region < 64) × (other_region ≢ region)
  to region_in_set = ⊎_elim
      (λ (region_within : other_region < 64). (
        region_within,
        λ (same_region : other_region ≡ region).
            let bit_set : bit_at (2 ^ region) other_region ≡ 1 = ap (bit_at (2 ^ region)) same_region ∙ bit_at-pow_same region in
            let bit_clear = bit_at-all_but region other_region region_below region_within in
            omega (arith, bit_set, bit_clear, region_in_set),
      ))
      (λ (region_above : 64 ≤ other_region).
      let bit_clear = bit_at_above (all_but region) 64 other_region (omega arith) region_above in
      absurd (omega (arith, bit_clear, region_in_set)))
      (cases_lt other_region 64)

  from : (other_region < 64) × (other_region ≢ region) → IsIn (all_but region) other_region
  from another_region = bit_at-all_but region other_region region_below another_region.0 ∙ ap (λ bit. 1 - bit) (bit_at-pow_other region other_region another_region.1)
