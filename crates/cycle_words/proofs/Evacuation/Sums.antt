-- Sums of what a test picks, and sums in rows.
use Rattle.std.proofs.Common.{◌≡◌, ℕ, ◌+◌, ◌*◌, ◌<◌, ◌≤◌, ◌==◌, if◌then◌else◌, Bool, true, false, zero, suc, refl, ap, ◌∙◌, ⊎_elim, arith}
use Rattle.std.specs.Int.{bit_at}
use Rattle.std.proofs.lemmas.Bool.{cases_eq, cond-true, eq-eqb, false≢true}
use Rattle.std.proofs.lemmas.Nat.Bits.{bit_at-lt}
use Rattle.regions.specs.Tops.{sum_below}
use Rattle.regions.proofs.Sums.{sum_next, sum_none, sum_of_none, sum_of_things}
use Rattle.regions.specs.Sets.{IsIn, members_below}

-- where each is at most another, so are the sums
pub sum_at_most : (f g : ℕ → ℕ) (n : ℕ) → ((index : ℕ) → index < n → f index ≤ g index) → sum_below f n ≤ sum_below g n
sum_at_most f g n each_less = sum_of_things f g n n (λ index index_below some_term. (index, index_below, each_less index index_below)) (λ other_index index _ _ _ _ same_index. same_index)

-- what one test picks another picks too
pub picked_at_most : (one_test wider_test : Bool) (n : ℕ) → (one_test ≡ true → wider_test ≡ true) → (if one_test then n else 0) ≤ (if wider_test then n else 0)
picked_at_most false wider_test n follows = omega arith
picked_at_most true true n follows = omega arith
picked_at_most true false n follows = absurd (false≢true (follows refl))

-- a sum in two parts
pub sum_in_parts : (f : ℕ → ℕ) (m n : ℕ) → sum_below f (m + n) ≡ sum_below f m + sum_below (λ index. f (m + index)) n
sum_in_parts f m zero =
    let plus_zero : m + 0 ≡ m = omega arith in
    let same_sum : sum_below f (m + 0) ≡ sum_below f m = ap (sum_below f) plus_zero in
    omega (arith, same_sum, sum_none (λ index. f (m + index)))
sum_in_parts f m (suc n) =
    let plus_next : m + suc n ≡ suc (m + n) = omega arith in
    let step : sum_below f (m + suc n) ≡ sum_below f (m + n) + f (m + n) = ap (sum_below f) plus_next ∙ sum_next f (m + n) in
    omega (arith, step, sum_in_parts f m n, sum_next (λ index. f (m + index)) n)

-- a sum in rows of one length
pub sum_in_rows : (f : ℕ → ℕ) (row_length rows : ℕ) → sum_below f (rows * row_length) ≡ sum_below (λ row. sum_below (λ column. f (row * row_length + column)) row_length) rows
sum_in_rows f row_length zero =
    let no_rows : 0 * row_length ≡ 0 = omega arith in
    let same_sum : sum_below f (0 * row_length) ≡ sum_below f 0 = ap (sum_below f) no_rows in
    omega (arith, same_sum, sum_none f, sum_none (λ row. sum_below (λ column. f (row * row_length + column)) row_length))
sum_in_rows f row_length (suc rows) =
    let next_row : suc rows * row_length ≡ rows * row_length + row_length = omega arith in
    let step : sum_below f (suc rows * row_length) ≡ sum_below f (rows * row_length) + sum_below (λ column. f (rows * row_length + column)) row_length = ap (sum_below f) next_row ∙ sum_in_parts f (rows * row_length) row_length in
    omega (arith, step, sum_in_rows f row_length rows, sum_next (λ row. sum_below (λ column. f (row * row_length + column)) row_length) rows)

-- a test that speaks of no term
pub sum_picked : (holds : Bool) (f : ℕ → ℕ) (n : ℕ) → sum_below (λ index. if holds then f index else 0) n ≡ (if holds then sum_below f n else 0)
sum_picked true f n = refl
sum_picked false f n = sum_of_none (λ index. 0) n (λ index _. refl)

-- where each member of a set has at least so much, they have that many times as much
pub members_at_least : (set least : ℕ) (f : ℕ → ℕ) (n : ℕ) → ((region : ℕ) → region < n → IsIn set region → least ≤ f region)
    → members_below set n * least ≤ sum_below (λ region. if bit_at set region == 1 then f region else 0) n
unfolding members_below
members_at_least set least f zero each_least = omega (arith, sum_none (λ region. if bit_at set region == 1 then f region else 0))
members_at_least set least f (suc n) each_least =
    let picked : ℕ → ℕ = λ region. if bit_at set region == 1 then f region else 0 in
    let rest = members_at_least set least f n (λ region region_below in_set. each_least region (omega (arith, region_below)) in_set) in
    ⊎_elim
    (λ (in_set : bit_at set n ≡ 1).
    let picked_value : picked n ≡ f n = cond-true (bit_at set n == 1) (f n) 0 (eq-eqb (bit_at set n) 1 in_set) in
    let one_least : bit_at set n * least ≡ 1 * least = ap (λ factor. factor * least) in_set in
    omega (arith, rest, picked_value, one_least, each_least n (omega arith) in_set, sum_next picked n))
    (λ (not_in : bit_at set n ≡ 1 → ⊥).
    let digit : bit_at set n ≡ 0 = omega (arith, not_in, bit_at-lt set n) in
    let no_least : bit_at set n * least ≡ 0 * least = ap (λ factor. factor * least) digit in
    omega (arith, rest, no_least, sum_next picked n))
    (cases_eq (bit_at set n) 1)
