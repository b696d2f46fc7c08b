-- How many numbers below pass a test.
use Rattle.std.proofs.Common.{◌≡◌, ◌≢◌, ◌<◌, ◌≤◌, ⊎_elim, ◌⊎◌, ℕ, zero, suc, ◌+◌, ◌||◌, Bool, true, false, refl, sym, ap, ◌∙◌, arith}
use Rattle.std.specs.Prelude.{if◌then◌else◌}
use Rattle.std.proofs.lemmas.Bool.{cases_eq, cases_order, false≢true}
use Rattle.table_heap.specs.Driving.{count_below}

-- two tests that agree
pub same_count : (test other_test : ℕ → Bool) → ((k : ℕ) → test k ≡ other_test k) → (n : ℕ) → count_below test n ≡ count_below other_test n
same_count test other_test alike zero = refl
same_count test other_test alike (suc n) =
    ap (λ outcome. if outcome then suc (count_below test n) else count_below test n) (alike n) ∙ ap (λ count. if other_test n then suc count else count) (same_count test other_test alike n)

-- numbers that pass one of two tests that never agree
pub count_sum : (test other_test joined_test : ℕ → Bool) → ((k : ℕ) → joined_test k ≡ (test k || other_test k)) → ((k : ℕ) → test k ≡ true → other_test k ≡ false) → (n : ℕ) → count_below joined_test n ≡ count_below test n + count_below other_test n
count_sum test other_test joined_test joins tests_apart zero = refl
count_sum test other_test joined_test joins tests_apart (suc n) =
    let sum_below = count_sum test other_test joined_test joins tests_apart n in
    ap (λ outcome. if outcome then suc (count_below joined_test n) else count_below joined_test n) (joins n) ∙ by_tests (test n) (other_test n) (tests_apart n) (count_below joined_test n) (count_below test n) (count_below other_test n) sum_below
  where
    by_tests : (holds other_holds : Bool) → (holds ≡ true → other_holds ≡ false) → (joined_count first_count second_count : ℕ) → joined_count ≡ first_count + second_count → (if holds || other_holds then suc joined_count else joined_count) ≡ (if holds then suc first_count else first_count) + (if other_holds then suc second_count else second_count)
    by_tests true true never_both joined_count first_count second_count counts_joined = absurd (false≢true (sym (never_both refl)))
    by_tests true false never_both joined_count first_count second_count counts_joined = omega (arith, counts_joined)
    by_tests false true never_both joined_count first_count second_count counts_joined = omega (arith, counts_joined)
    by_tests false false never_both joined_count first_count second_count counts_joined = counts_joined

module _ (test : ℕ → Bool) where
  pub counts : (n : ℕ) → test n ≡ true → count_below test (suc n) ≡ suc (count_below test n)
  counts n passes = ap (λ outcome. if outcome then suc (count_below test n) else count_below test n) passes

  pub counts_not : (n : ℕ) → test n ≡ false → count_below test (suc n) ≡ count_below test n
  counts_not n fails = ap (λ outcome. if outcome then suc (count_below test n) else count_below test n) fails

  -- one number more counts at most one more
  grows : (n : ℕ) → count_below test n ≤ count_below test (suc n)
  grows n = by_test (test n)
    where
      by_test : (holds : Bool) → count_below test n ≤ (if holds then suc (count_below test n) else count_below test n)
      by_test true = omega arith
      by_test false = omega arith

  -- no more pass than there are
  pub count_low : (n : ℕ) → count_below test n ≤ n
  count_low zero = omega arith
  count_low (suc n) = by_test (test n) (count_low n)
    where
      by_test : (holds : Bool) → count_below test n ≤ n → (if holds then suc (count_below test n) else count_below test n) ≤ suc n
      by_test true count_low = omega (arith, count_low)
      by_test false count_low = omega (arith, count_low)

  -- one that passes counts for those above it
  pub counts_above : (k n : ℕ) → k < n → test k ≡ true → count_below test k < count_below test n
  counts_above k zero number_below passes = absurd (omega (arith, number_below))
  counts_above k (suc n) number_below passes = ⊎_elim
      (λ (same_number : k ≡ n). let next_counts = counts n (ap test (sym same_number) ∙ passes) in let same_counts = ap (count_below test) same_number in omega (arith, next_counts, same_counts))
      (λ (numbers_differ : k ≡ n → ⊥). let counts_less = counts_above k n (omega (arith, number_below, numbers_differ)) passes in let count_grows = grows n in omega (arith, counts_less, count_grows))
      (cases_eq k n)

  -- so two that pass have different counts
  pub counts_differ : (k n : ℕ) → k ≢ n → test k ≡ true → test n ≡ true → count_below test k ≢ count_below test n
  counts_differ k n numbers_differ first_passes second_passes same_counts = ⊎_elim
      (λ (same_number : k ≡ n). numbers_differ same_number)
      (λ (ordered : (k < n) ⊎ (n < k)). ⊎_elim
      (λ (is_below : k < n). absurd (let counts_less = counts_above k n is_below first_passes in omega (arith, counts_less, same_counts)))
      (λ (is_above : n < k). absurd (let counts_less = counts_above n k is_above second_passes in omega (arith, counts_less, same_counts)))
      ordered)
      (cases_order k n)

  -- where none passes
  pub count_none : (n : ℕ) → ((number : ℕ) → number < n → test number ≡ false) → count_below test n ≡ 0
  count_none zero none_passes = refl
  count_none (suc n) none_passes = counts_not n (none_passes n (omega arith)) ∙ count_none n (λ number low. none_passes number (omega (arith, low)))

  -- from some number on
  pub count_above : (n upper : ℕ) → n ≤ upper → ((k : ℕ) → n ≤ k → test k ≡ false) → count_below test upper ≡ count_below test n
  count_above n zero upper_above none_above = ap (count_below test) (let start_zero : 0 ≡ n = omega (arith, upper_above) in start_zero)
  count_above n (suc upper) upper_above none_above = ⊎_elim
      (λ (same_number : n ≡ suc upper). ap (count_below test) (sym same_number))
      (λ (numbers_differ : n ≡ suc upper → ⊥).
      let start_low : n ≤ upper = omega (arith, upper_above, numbers_differ) in
      counts_not upper (none_above upper start_low) ∙ count_above n upper start_low none_above)
      (cases_eq n (suc upper))
