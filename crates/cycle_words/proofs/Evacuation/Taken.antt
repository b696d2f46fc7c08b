-- A front that fits grows by the next candidate, until that one does not fit.
use Rattle.std.proofs.Common.{inl, inr, zero, suc, ◌≡◌, ◌≢◌, ℕ, ◌+◌, ◌^◌, ◌<◌, ◌≤◌, ◌⊎◌, ◌==◌, if◌then◌else◌, Bool, true, refl, sym, ap, ◌∙◌, subst, ⊎_elim, arith}
use Rattle.std.specs.Int.{bit_at}
use Rattle.std.proofs.lemmas.Bool.{cases_eq, cases_lt, cond-true, cond-false, cond_both, eq-eqb, ne_eqb, eqb-true}
use Rattle.std.proofs.lemmas.Nat.Bits.{bit_at-lt, bit_at-zero, bit_at_above, same_from_bits}
use Rattle.std.proofs.lemmas.Nat.{pow_pos}
use Rattle.regions.specs.Tops.{sum_below}
use Rattle.regions.proofs.Sums.{sum_both, sum_of_none, sum_of_one}
use Rattle.regions.specs.Sets.{IsIn, IsOutside}
use Rattle.cycle_words.specs.Marking.Marks.{bits_of}
use Rattle.cycle_words.proofs.Marking.Bits.{one, bits_small, bits_at}
use Rattle.cycle_words.specs.Evacuation.Front.{ComesBefore, live_in, IsFront, IsLongestFront, IsNext, HasOneMore, FrontsAreTaken}
use Rattle.cycle_words.proofs.Evacuation.Sums.{sum_at_most, picked_at_most}
use Rattle.cycle_words.proofs.Evacuation.Order.{one_before}

-- a region is in a set or outside it
in_or_outside : (set region : ℕ) → IsIn set region ⊎ IsOutside set region
in_or_outside set region = ⊎_elim
    (λ (member : bit_at set region ≡ 1). inl member)
    (λ (not_in : bit_at set region ≢ 1). inr (omega (arith, not_in, bit_at-lt set region)))
    (cases_eq (bit_at set region) 1)

-- no region is both
not_both : (set region : ℕ) → IsIn set region → IsOutside set region → ⊥
not_both set region member outside = omega (arith, member, outside)

-- a number that has no digit from one on is below that power of two
small_of_digits : (set n : ℕ) → ((place : ℕ) → n ≤ place → bit_at set place ≡ 0) → set < 2 ^ n
small_of_digits set n no_digits =
    let digits_again = bits_of (λ place. bit_at set place == 1) 0 n in
    let small = bits_small (λ place. bit_at set place == 1) 0 n in
    let same_set : set ≡ digits_again = same_from_bits set digits_again (λ place. ⊎_elim
    (λ (place_below : place < n).
    let plain : 0 + place ≡ place = omega arith in
    sym (bits_at (λ position. bit_at set position == 1) 0 n place place_below ∙ ap (λ position. one (bit_at set position == 1)) plain ∙ digit (bit_at set place) (bit_at-lt set place)))
    (λ (place_above : n ≤ place). no_digits place place_above ∙ sym (bit_at_above digits_again n place small place_above))
    (cases_lt place n)) in
    omega (arith, same_set, small)
  where
    digit : (k : ℕ) → k < 2 → one (k == 1) ≡ k
    digit zero below_two = refl
    digit (suc zero) below_two = refl
    digit (suc (suc k)) below_two = absurd (omega (arith, below_two))

module _ (regions limit : ℕ) (live : ℕ → ℕ) (candidate : ℕ → Bool) where
  abbrev Front : ℕ → Type 0
  Front = IsFront regions limit live candidate

  abbrev within : ℕ → ℕ → ℕ
  within set region = if bit_at set region == 1 then live region else 0

  nothing_in_none : (region : ℕ) → IsIn 0 region → ⊥
  nothing_in_none region member = omega (arith, member, bit_at-zero region)

  begins : Front 0
  begins = record {
    in_heap = omega (arith, pow_pos regions);
    candidates = λ region member. absurd (nothing_in_none region member);
    from_front = λ region other_region region_below is_candidate before member. absurd (nothing_in_none other_region member);
    fits = (let nothing_lives = sum_of_none (within 0) regions (λ region _. cond-false (bit_at 0 region == 1) (live region) 0 (ne_eqb (bit_at 0 region) 1 (nothing_in_none region))) in omega (arith, nothing_lives));
  }

  -- what lives in a set and in one region besides
  abbrev and_one : ℕ → ℕ → ℕ → ℕ
  and_one set added_region region = within set region + (if region == added_region then live added_region else 0)

  sum_and_one : (set added_region : ℕ) → added_region < regions → sum_below (and_one set added_region) regions ≡ live_in regions live set + live added_region
  sum_and_one set added_region region_below =
      let one : ℕ → ℕ = λ region. if region == added_region then live added_region else 0 in
      let alone : sum_below one regions ≡ one added_region = sum_of_one one regions added_region region_below (λ region _ different_region. cond-false (region == added_region) (live added_region) 0 (ne_eqb region added_region different_region)) in
      let added_there : one added_region ≡ live added_region = cond-true (added_region == added_region) (live added_region) 0 (eq-eqb added_region added_region refl) in
      omega (arith, sum_both (within set) one regions, alone, added_there)

  -- in a set with that region lives as much
  same_with : (set other_set region asked_region : ℕ) → IsOutside set region → IsIn other_set region → (asked_region ≢ region → within set asked_region ≤ within other_set asked_region) → and_one set region asked_region ≤ within other_set asked_region
  same_with set other_set region asked_region outside member rest = ⊎_elim
      (λ (same_region : asked_region ≡ region).
      let lives_there : within other_set asked_region ≡ live asked_region = cond-true (bit_at other_set asked_region == 1) (live asked_region) 0 (eq-eqb (bit_at other_set asked_region) 1 (subst (IsIn other_set) (sym same_region) member)) in
      let none_lives : within set asked_region ≡ 0 = cond-false (bit_at set asked_region == 1) (live asked_region) 0 (ne_eqb (bit_at set asked_region) 1 (λ inside. not_both set region (subst (IsIn set) same_region inside) outside)) in
      let added_live : (if asked_region == region then live region else 0) ≡ live region = cond-true (asked_region == region) (live region) 0 (eq-eqb asked_region region same_region) in
      let same_live : live asked_region ≡ live region = ap live same_region in
      omega (arith, lives_there, none_lives, added_live, same_live))
      (λ (different_region : asked_region ≢ region).
      let none_lives : (if asked_region == region then live region else 0) ≡ 0 = cond-false (asked_region == region) (live region) 0 (ne_eqb asked_region region different_region) in
      omega (arith, none_lives, rest different_region))
      (cases_eq asked_region region)

  live_in_more : (set region larger_set : ℕ) → region < regions → HasOneMore set region larger_set → live_in regions live larger_set ≤ live_in regions live set + live region
  live_in_more set region larger_set region_below one_more =
      let most_live = sum_at_most (within larger_set) (and_one set region) regions (λ any_region _. ⊎_elim
      (λ (same_region : any_region ≡ region).
      let added_live : (if any_region == region then live region else 0) ≡ live region = cond-true (any_region == region) (live region) 0 (eq-eqb any_region region same_region) in
      let same_live : live any_region ≡ live region = ap live same_region in
      cond_both (bit_at larger_set any_region == 1) (live any_region) 0 (λ words. words ≤ and_one set region any_region) (λ _. omega (arith, added_live, same_live)) (λ _. omega arith))
      (λ (different_region : any_region ≢ region).
      let same_live : within larger_set any_region ≡ within set any_region = ap (λ digit. if digit == 1 then live any_region else 0) (one_more.others any_region different_region) in
      omega (arith, same_live))
      (cases_eq any_region region)) in
      omega (arith, most_live, sum_and_one set region region_below)

  goes_on : (set region larger_set : ℕ) → Front set → IsNext regions live candidate set region → HasOneMore set region larger_set
      → live_in regions live set + live region ≤ limit → Front larger_set
  goes_on set next_region larger_set front is_next one_more room =
      let was_member : (region : ℕ) → IsIn larger_set region → region ≢ next_region → IsIn set region = λ region member different_region. sym (one_more.others region different_region) ∙ member in
      record {
        in_heap = small_of_digits larger_set regions (λ region region_above. ⊎_elim
            (λ (same_region : region ≡ next_region). absurd (omega (arith, same_region, region_above, is_next.below)))
            (λ (different_region : region ≢ next_region). one_more.others region different_region ∙ bit_at_above set regions region front.in_heap region_above)
            (cases_eq region next_region));
        candidates = λ region member. ⊎_elim
            (λ (same_region : region ≡ next_region). ap candidate same_region ∙ is_next.is)
            (λ (different_region : region ≢ next_region). front.candidates region (was_member region member different_region))
            (cases_eq region next_region);
        from_front = λ other_region region region_below is_candidate before member. ⊎_elim
            (λ (same_region : other_region ≡ next_region). subst (IsIn larger_set) (sym same_region) one_more.member)
            (λ (different_region : other_region ≢ next_region). one_more.others other_region different_region ∙ ⊎_elim
            (λ (inside : IsIn set other_region). inside)
            (λ (outside : IsOutside set other_region). ⊎_elim
            (λ (same_region : region ≡ next_region). absurd (is_next.none_before other_region region_below is_candidate outside (subst (ComesBefore live other_region) same_region before)))
            (λ (regions_apart : region ≢ next_region). front.from_front other_region region region_below is_candidate before (was_member region member regions_apart))
            (cases_eq region next_region))
            (in_or_outside set other_region))
            (cases_eq other_region next_region);
        fits = (let most_live = live_in_more set next_region larger_set is_next.below one_more in omega (arith, most_live, room));
      }

  -- a front that has a candidate outside of another has the next one of that, and all of its members
  is_full : (set region : ℕ) → Front set → IsNext regions live candidate set region → limit < live_in regions live set + live region
      → IsLongestFront regions limit live candidate set
  is_full set next_region front is_next limit_passed = record {
    front = front;
    longest = λ second_set second_front region member. ⊎_elim
        (λ (inside : IsIn set region). inside)
        (λ (outside : IsOutside set region). absurd (too_much second_set second_front region member outside))
        (in_or_outside set region);
  }
    where
      too_much : (other_set : ℕ) → Front other_set → (asked_region : ℕ) → IsIn other_set asked_region → IsOutside set asked_region → ⊥
      too_much other_set other_front asked_region member outside =
          let inside : asked_region < regions = ⊎_elim
          (λ (region_below : asked_region < regions). region_below)
          (λ (region_above : regions ≤ asked_region). absurd (omega (arith, member, bit_at_above other_set regions asked_region other_front.in_heap region_above)))
          (cases_lt asked_region regions) in
          let has_next : IsIn other_set next_region = ⊎_elim
          (λ (same_region : next_region ≡ asked_region). subst (IsIn other_set) (sym same_region) member)
          (λ (order : ComesBefore live next_region asked_region ⊎ ComesBefore live asked_region next_region). ⊎_elim
          (λ (before : ComesBefore live next_region asked_region). other_front.from_front next_region asked_region is_next.below is_next.is before member)
          (λ (before : ComesBefore live asked_region next_region). absurd (is_next.none_before asked_region inside (other_front.candidates asked_region member) outside before))
          order)
          (one_before live next_region asked_region) in
          let has_each : (region : ℕ) → region < regions → IsIn set region → IsIn other_set region = λ region region_below in_set. ⊎_elim
          (λ (same_region : region ≡ next_region). absurd (not_both set next_region (subst (IsIn set) same_region in_set) is_next.outside))
          (λ (order : ComesBefore live region next_region ⊎ ComesBefore live next_region region). ⊎_elim
          (λ (before : ComesBefore live region next_region). other_front.from_front region next_region region_below (front.candidates region in_set) before has_next)
          (λ (comes_behind : ComesBefore live next_region region). absurd (not_both set next_region (front.from_front next_region region is_next.below is_next.is comes_behind in_set) is_next.outside))
          order)
          (one_before live region next_region) in
          let least_sum = sum_at_most (and_one set next_region) (within other_set) regions (λ region region_below. same_with set other_set next_region region is_next.outside has_next (λ _.
          picked_at_most (bit_at set region == 1) (bit_at other_set region == 1) (live region) (λ picked. eq-eqb (bit_at other_set region) 1 (has_each region region_below (eqb-true (bit_at set region) 1 picked))))) in
          omega (arith, least_sum, sum_and_one set next_region is_next.below, limit_passed, other_front.fits)

  has_all : (set : ℕ) → Front set → ((region : ℕ) → region < regions → candidate region ≡ true → IsIn set region) → IsLongestFront regions limit live candidate set
  has_all set front all_inside = record {
    front = front;
    longest = λ other_set other_front region member. ⊎_elim
        (λ (region_below : region < regions). all_inside region region_below (other_front.candidates region member))
        (λ (region_above : regions ≤ region). absurd (omega (arith, member, bit_at_above other_set regions region other_front.in_heap region_above)))
        (cases_lt region regions);
  }

  pub fronts_are_taken : FrontsAreTaken regions limit live candidate
  fronts_are_taken = record { begins = begins; goes_on = goes_on; is_full = is_full; has_all = has_all }
