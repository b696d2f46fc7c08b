-- The longest front of the candidates is what it is said to be, and there is no other.
use Rattle.std.proofs.Common.{◌≡◌, ℕ, ◌+◌, ◌<◌, ◌≤◌, ◌⊎◌, ◌==◌, ◌&&◌, nat_le, not, if◌then◌else◌, Bool, true, false, refl, sym, ap, ◌∙◌, subst, ⊎_elim, arith}
use Rattle.std.specs.Int.{bit_at}
use Rattle.std.proofs.lemmas.Bool.{and_parts, and_from, cases_lt, cases_eq, leb-true, le-leb, eq-eqb, eqb-true, not-true, not_from_false, false_from_ne_true, both_ways, cond-false, ne_eqb}
use Rattle.std.proofs.lemmas.Nat.Bits.{bit_at-lt, bit_at_above, same_from_bits_below}
use Rattle.regions.proofs.Sums.{sum_of_none}
use Rattle.regions.specs.Sets.{IsIn}
use Rattle.cycle_words.proofs.Marking.Bits.{one, bits_small, bits_at}
use Rattle.cycle_words.specs.Evacuation.Front.{ComesBefore, comes_before, live_in, live_up_to, IsFront, IsLongestFront, is_in_front, longest_front}
use Rattle.cycle_words.proofs.Evacuation.Sums.{sum_at_most, picked_at_most}
use Rattle.cycle_words.proofs.Evacuation.Order.{before_told, before_is, before_through, one_before, IsLast, last_or_none}

-- two digits of which both are 1 or none is
same_digit : (first_digit second_digit : ℕ) → first_digit < 2 → second_digit < 2 → (first_digit ≡ 1 → second_digit ≡ 1) → (second_digit ≡ 1 → first_digit ≡ 1) → first_digit ≡ second_digit
same_digit first_digit second_digit first_low second_low to_second to_first = ⊎_elim
    (λ (is_one : first_digit ≡ 1). let second_one = to_second is_one in omega (arith, is_one, second_one))
    (λ (not_one : first_digit ≡ 1 → ⊥). ⊎_elim
    (λ (is_one : second_digit ≡ 1). absurd (not_one (to_first is_one)))
    (λ (neither : second_digit ≡ 1 → ⊥). omega (arith, first_low, second_low, not_one, neither))
    (cases_eq second_digit 1))
    (cases_eq first_digit 1)

module _ (regions limit : ℕ) (live : ℕ → ℕ) (candidate : ℕ → Bool) where
  abbrev front : ℕ
  front = longest_front regions limit live candidate

  abbrev in_front : ℕ → Bool
  in_front = is_in_front regions limit live candidate

  abbrev up_to : ℕ → ℕ
  up_to = live_up_to regions live candidate

  -- a region counts among those up to another
  abbrev counts : ℕ → ℕ → Bool
  counts last_region region = candidate region && not (comes_before live last_region region)

  -- a candidate counts unless the other comes before it
  counted : (last_region region : ℕ) → candidate region ≡ true → (ComesBefore live last_region region → ⊥) → counts last_region region ≡ true
  counted last_region region is_candidate not_behind =
      and_from (candidate region) (not (comes_before live last_region region)) is_candidate
      (not_from_false (comes_before live last_region region) (false_from_ne_true (comes_before live last_region region) (λ region_behind. not_behind (before_is live last_region region region_behind))))

  counted_is : (last_region region : ℕ) → counts last_region region ≡ true → (candidate region ≡ true) × (ComesBefore live last_region region → ⊥)
  counted_is last_region region counting =
      let both_tests = and_parts (candidate region) (not (comes_before live last_region region)) counting in
      (both_tests.0, λ region_behind. both_ways (comes_before live last_region region) (not-true (comes_before live last_region region) both_tests.1) (before_told live last_region region region_behind))

  -- up to a later one lives as much or more
  up_to_grows : (earlier_region later_region : ℕ) → ComesBefore live earlier_region later_region → up_to earlier_region ≤ up_to later_region
  up_to_grows earlier_region later_region before =
      sum_at_most (λ counted_region. if counts earlier_region counted_region then live counted_region else 0) (λ counted_region. if counts later_region counted_region then live counted_region else 0) regions
      (λ region _. picked_at_most (counts earlier_region region) (counts later_region region) (live region) (λ counting.
      let was_counted = counted_is earlier_region region counting in
      counted later_region region was_counted.0 (λ region_behind. was_counted.1 (before_through live earlier_region later_region region before region_behind))))

  -- the members of the front
  pub put_in_front : (region : ℕ) → region < regions → in_front region ≡ true → IsIn front region
  put_in_front region region_below test_passed =
      let plain_sum : 0 + region ≡ region = omega arith in
      bits_at in_front 0 regions region region_below ∙ ap (λ number. one (in_front number)) plain_sum ∙ ap one test_passed

  pub from_front : (region : ℕ) → IsIn front region → (region < regions) × (in_front region ≡ true)
  from_front region is_member = ⊎_elim
      (λ (region_below : region < regions).
      let plain_sum : 0 + region ≡ region = omega arith in
      (region_below, told (in_front region) (sym (ap (λ number. one (in_front number)) plain_sum) ∙ sym (bits_at in_front 0 regions region region_below) ∙ is_member)))
      (λ (region_above : regions ≤ region). absurd (omega (arith, is_member, bit_at_above front regions region (bits_small in_front 0 regions) region_above)))
      (cases_lt region regions)
    where
      told : (holds : Bool) → one holds ≡ 1 → holds ≡ true
      told true is_one = refl
      told false is_one = absurd (omega (arith, is_one))

  -- a member of the front is a candidate up to which all fits
  pub member_is : (region : ℕ) → IsIn front region → (region < regions) × (candidate region ≡ true) × (up_to region ≤ limit)
  member_is region is_member =
      let front_facts = from_front region is_member in
      let both_tests = and_parts (candidate region) (nat_le (up_to region) limit) front_facts.1 in
      (front_facts.0, both_tests.0, leb-true (up_to region) limit both_tests.1)

  member_from : (region : ℕ) → region < regions → candidate region ≡ true → up_to region ≤ limit → IsIn front region
  member_from region region_below is_candidate live_fits = put_in_front region region_below (and_from (candidate region) (nat_le (up_to region) limit) is_candidate (le-leb (up_to region) limit live_fits))

  -- what lives in the front is what lives up to its last member
  front_fits : live_in regions live front ≤ limit
  front_fits = ⊎_elim
      (λ (none_in_front : (asked_region : ℕ) → asked_region < regions → in_front asked_region ≡ false).
      let empty = sum_of_none (λ asked_region. if bit_at front asked_region == 1 then live asked_region else 0) regions
      (λ asked_region region_below. cond-false (bit_at front asked_region == 1) (live asked_region) 0
      (ne_eqb (bit_at front asked_region) 1 (λ is_member. both_ways (in_front asked_region) (none_in_front asked_region region_below) (from_front asked_region is_member).1))) in
      omega (arith, empty))
      (λ (last_found : (last_region : ℕ) × IsLast live in_front regions last_region).
      let last_region = last_found.0 in
      let sum_bound = sum_at_most (λ asked_region. if bit_at front asked_region == 1 then live asked_region else 0) (λ asked_region. if counts last_region asked_region then live asked_region else 0) regions
      (λ region region_below. picked_at_most (bit_at front region == 1) (counts last_region region) (live region) (λ is_member.
      let front_facts = from_front region (eqb-true (bit_at front region) 1 is_member) in
      counted last_region region (and_parts (candidate region) (nat_le (up_to region) limit) front_facts.1).0 (λ region_behind. last_found.1.last region region_below front_facts.1 region_behind))) in
      let live_within = leb-true (up_to last_region) limit (and_parts (candidate last_region) (nat_le (up_to last_region) limit) last_found.1.is).1 in
      omega (arith, sum_bound, live_within))
      (last_or_none live in_front regions)

  pub front_is : IsFront regions limit live candidate front
  front_is = record {
    in_heap = bits_small in_front 0 regions;
    candidates = λ region is_picked. (member_is region is_picked).1;
    from_front = λ earlier_region later_region region_below is_picked before member.
        member_from earlier_region region_below is_picked (let grows = up_to_grows earlier_region later_region before in let live_fits = (member_is later_region member).2 in omega (arith, grows, live_fits));
    fits = front_fits;
  }

  -- each member of a front lies in the longest one: the front has all that counts up to it
  pub longest : (other_front : ℕ) → IsFront regions limit live candidate other_front → (region : ℕ) → IsIn other_front region → IsIn front region
  longest other_front front_given region region_in_front = ⊎_elim
      (λ (region_below : region < regions).
      let sum_bound = sum_at_most (λ counted_region. if counts region counted_region then live counted_region else 0) (λ counted_region. if bit_at other_front counted_region == 1 then live counted_region else 0) regions
      (λ earlier_region inside. picked_at_most (counts region earlier_region) (bit_at other_front earlier_region == 1) (live earlier_region) (λ counts_here.
      let was_counted = counted_is region earlier_region counts_here in
      eq-eqb (bit_at other_front earlier_region) 1 (⊎_elim
      (λ (same_region : region ≡ earlier_region). subst (IsIn other_front) same_region region_in_front)
      (λ (order : ComesBefore live region earlier_region ⊎ ComesBefore live earlier_region region). ⊎_elim
      (λ (comes_first : ComesBefore live region earlier_region). absurd (was_counted.1 comes_first))
      (λ (ahead : ComesBefore live earlier_region region). front_given.from_front earlier_region region inside was_counted.0 ahead region_in_front)
      order)
      (one_before live region earlier_region)))) in
      member_from region region_below (front_given.candidates region region_in_front) (omega (arith, sum_bound, front_given.fits)))
      (λ (region_above : regions ≤ region). absurd (omega (arith, region_in_front, bit_at_above other_front regions region front_given.in_heap region_above)))
      (cases_lt region regions)

  pub front_is_longest : IsLongestFront regions limit live candidate front
  front_is_longest = record { front = front_is; longest = longest }

  -- there is no other
  pub only_front : (longest_set : ℕ) → IsLongestFront regions limit live candidate longest_set → longest_set ≡ front
  only_front longest_set set_is_longest =
      same_from_bits_below regions longest_set front set_is_longest.front.in_heap front_is.in_heap (λ member_region region_below.
      let to_front : bit_at longest_set member_region ≡ 1 → bit_at front member_region ≡ 1 = longest longest_set set_is_longest.front member_region in
      let to_set : bit_at front member_region ≡ 1 → bit_at longest_set member_region ≡ 1 = set_is_longest.longest front front_is member_region in
      same_digit (bit_at longest_set member_region) (bit_at front member_region) (bit_at-lt longest_set member_region) (bit_at-lt front member_region) to_front to_set)
