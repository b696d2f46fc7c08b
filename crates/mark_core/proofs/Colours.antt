-- Words of mark bits by the tests of their addresses.
use Rattle.std.proofs.Common.{◌≡◌, ℕ, ◌+◌, ◌*◌, ◌^◌, ◌<◌, Bool, false, zero, suc, refl, ap, ◌∙◌, arith}
use Rattle.cycle_words.specs.Marking.Marks.{bits_of}
use Rattle.cycle_words.proofs.Marking.Bits.{one}

-- tests that agree give one number
pub bits_agree : (test other_test : ℕ → Bool) (first count : ℕ) → ((place : ℕ) → place < count → test (first + place) ≡ other_test (first + place)) → bits_of test first count ≡ bits_of other_test first count
unfolding bits_of
bits_agree test other_test first zero agree = refl
bits_agree test other_test first (suc count) agree =
    ap (λ outcome. one outcome * 2 ^ count + bits_of test first count) (agree count (omega arith))
    ∙ ap (λ lower_bits. one (other_test (first + count)) * 2 ^ count + lower_bits) (bits_agree test other_test first count (λ place place_below. agree place (omega (arith, place_below))))

pub bits_none : (test : ℕ → Bool) (first count : ℕ) → ((place : ℕ) → place < count → test (first + place) ≡ false) → bits_of test first count ≡ 0
unfolding bits_of
bits_none test first zero none_met = refl
bits_none test first (suc count) none_met =
    let none_before = bits_none test first count (λ place place_below. none_met place (omega (arith, place_below))) in
    ap (λ outcome. one outcome * 2 ^ count + bits_of test first count) (none_met count (omega arith)) ∙ ap (λ x. 0 * 2 ^ count + x) none_before ∙ nothing (2 ^ count)
  where
    nothing : (x : ℕ) → 0 * x + 0 ≡ 0
    nothing x = omega arith
