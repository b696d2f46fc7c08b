-- The order of candidates: it is a strict order of all regions, and of some regions there is always a last one.
use Rattle.std.proofs.Common.{◌≡◌, ℕ, ◌<◌, ◌⊎◌, ◌==◌, ◌&&◌, nat_lt, Bool, true, false, zero, suc, inl, inr, sym, ap, ◌∙◌, subst, ⊎_elim, arith}
use Rattle.std.proofs.lemmas.Bool.{or_cases, or_left, or_right, and_parts, and_from, cases_eq, cases_order, cases_Bool, lt-ltb, ltb-true, eq-eqb, eqb-true, both_ways}
use Rattle.cycle_words.specs.Evacuation.Front.{ComesBefore, comes_before}

module _ (live : ℕ → ℕ) where
  pub before_told : (earlier later : ℕ) → ComesBefore live earlier later → comes_before live earlier later ≡ true
  before_told earlier later before = ⊎_elim
      (λ (less_live : live earlier < live later). or_left (nat_lt (live earlier) (live later)) ((live earlier == live later) && nat_lt earlier later) (lt-ltb (live earlier) (live later) less_live))
      (λ (same_live : (live earlier ≡ live later) × (earlier < later)).
      or_right (nat_lt (live earlier) (live later)) ((live earlier == live later) && nat_lt earlier later) (and_from (live earlier == live later) (nat_lt earlier later) (eq-eqb (live earlier) (live later) same_live.0) (lt-ltb earlier later same_live.1)))
      before

  pub before_is : (earlier later : ℕ) → comes_before live earlier later ≡ true → ComesBefore live earlier later
  before_is earlier later order_told = ⊎_elim
      (λ (less_live : nat_lt (live earlier) (live later) ≡ true). inl (ltb-true (live earlier) (live later) less_live))
      (λ (same_live : ((live earlier == live later) && nat_lt earlier later) ≡ true).
      let tie_parts = and_parts (live earlier == live later) (nat_lt earlier later) same_live in
      inr (eqb-true (live earlier) (live later) tie_parts.0, ltb-true earlier later tie_parts.1))
      (or_cases (nat_lt (live earlier) (live later)) ((live earlier == live later) && nat_lt earlier later) order_told)

  -- no region comes before itself
  pub not_itself : (region : ℕ) → ComesBefore live region region → ⊥
  not_itself region before = ⊎_elim (λ (less_live : live region < live region). omega (arith, less_live)) (λ (same_live : (live region ≡ live region) × (region < region)). omega (arith, same_live.1)) before

  -- what comes before one that comes before a third comes before that
  pub before_through : (earliest middle latest : ℕ) → ComesBefore live earliest middle → ComesBefore live middle latest → ComesBefore live earliest latest
  before_through earliest middle latest first_before second = ⊎_elim
      (λ (first_less : live earliest < live middle). ⊎_elim
      (λ (second_less : live middle < live latest). inl (omega (arith, first_less, second_less)))
      (λ (same_live : (live middle ≡ live latest) × (middle < latest)). inl (omega (arith, first_less, same_live.0)))
      second)
      (λ (same_live : (live earliest ≡ live middle) × (earliest < middle)). ⊎_elim
      (λ (second_less : live middle < live latest). inl (omega (arith, same_live.0, second_less)))
      (λ (also : (live middle ≡ live latest) × (middle < latest)). inr (omega (arith, same_live.0, also.0), omega (arith, same_live.1, also.1)))
      second)
      first_before

  -- of two regions one comes before
  pub one_before : (one_region other_region : ℕ) → (one_region ≡ other_region) ⊎ (ComesBefore live one_region other_region ⊎ ComesBefore live other_region one_region)
  one_before one_region other_region = ⊎_elim
      (λ (same_live : live one_region ≡ live other_region). ⊎_elim
      (λ (same_region : one_region ≡ other_region). inl same_region)
      (λ (numbers_apart : (one_region < other_region) ⊎ (other_region < one_region)). ⊎_elim
      (λ (lower : one_region < other_region). inr (inl (inr (same_live, lower))))
      (λ (higher : other_region < one_region). inr (inr (inr (sym same_live, higher))))
      numbers_apart)
      (cases_order one_region other_region))
      (λ (counts_differ : (live one_region < live other_region) ⊎ (live other_region < live one_region)). ⊎_elim
      (λ (less_live : live one_region < live other_region). inr (inl (inl less_live)))
      (λ (more_live : live other_region < live one_region). inr (inr (inl more_live)))
      counts_differ)
      (cases_order (live one_region) (live other_region))

  -- of the regions below a number that a test picks, one comes before no other
  pub record IsLast (test : ℕ → Bool) (n picked_number : ℕ) : Type 0 where
    pub below : picked_number < n
    pub is : test picked_number ≡ true
    pub last : (asked_number : ℕ) → asked_number < n → test asked_number ≡ true → ComesBefore live picked_number asked_number → ⊥

  abbrev IsNone : (ℕ → Bool) → ℕ → Type 0
  IsNone test n = (asked_number : ℕ) → asked_number < n → test asked_number ≡ false

  -- one number more that the test does not pick
  last_as_before : (test : ℕ → Bool) (n last_number : ℕ) → IsLast test n last_number → test n ≡ false → IsLast test (suc n) last_number
  last_as_before test n last_number old unpicked = record {
    below = omega (arith, old.below);
    is = old.is;
    last = λ other_number number_below is_picked number_before. ⊎_elim
        (λ (at_new : other_number ≡ n). both_ways (test other_number) (ap test at_new ∙ unpicked) is_picked)
        (λ (not_new : other_number ≡ n → ⊥). old.last other_number (omega (arith, number_below, not_new)) is_picked number_before)
        (cases_eq other_number n);
  }

  -- one that it picks, and which is the first of all, or comes behind the last one
  last_of_more : (test : ℕ → Bool) (n old_last : ℕ) → IsLast test n old_last → test n ≡ true → (ComesBefore live old_last n ⊎ ComesBefore live n old_last) → (new_last : ℕ) × IsLast test (suc n) new_last
  last_of_more test n old_last old new_picked order = ⊎_elim
      (λ (comes_behind : ComesBefore live old_last n). (
        n,
        record {
          below = omega arith;
          is = new_picked;
          last = λ other_number number_below picked number_before. ⊎_elim
              (λ (at_new : other_number ≡ n). not_itself n (subst (ComesBefore live n) at_new number_before))
              (λ (not_new : other_number ≡ n → ⊥). old.last other_number (omega (arith, number_below, not_new)) picked (before_through old_last n other_number comes_behind number_before))
              (cases_eq other_number n);
        },
      ))
      (λ (ahead : ComesBefore live n old_last). (
        old_last,
        record {
          below = omega (arith, old.below);
          is = old.is;
          last = λ other_number number_below picked number_before. ⊎_elim
              (λ (at_new : other_number ≡ n). not_itself old_last (before_through old_last n old_last (subst (ComesBefore live old_last) at_new number_before) ahead))
              (λ (not_new : other_number ≡ n → ⊥). old.last other_number (omega (arith, number_below, not_new)) picked number_before)
              (cases_eq other_number n);
        },
      ))
      order

  -- the only one
  last_alone : (test : ℕ → Bool) (n : ℕ) → IsNone test n → test n ≡ true → IsLast test (suc n) n
  last_alone test n none_picked new_picked = record {
    below = omega arith;
    is = new_picked;
    last = λ other_number number_below picked number_before. ⊎_elim
        (λ (at_new : other_number ≡ n). not_itself n (subst (ComesBefore live n) at_new number_before))
        (λ (not_new : other_number ≡ n → ⊥). both_ways (test other_number) (none_picked other_number (omega (arith, number_below, not_new))) picked)
        (cases_eq other_number n);
  }

  none_more : (test : ℕ → Bool) (n : ℕ) → IsNone test n → test n ≡ false → IsNone test (suc n)
  none_more test n none_picked unpicked asked_number number_below = ⊎_elim
      (λ (at_new : asked_number ≡ n). ap test at_new ∙ unpicked)
      (λ (not_new : asked_number ≡ n → ⊥). none_picked asked_number (omega (arith, number_below, not_new)))
      (cases_eq asked_number n)

  pub last_or_none : (test : ℕ → Bool) (n : ℕ) → ((number : ℕ) → number < n → test number ≡ false) ⊎ ((last_number : ℕ) × IsLast test n last_number)
  last_or_none test zero = inl (λ number number_below. absurd (omega (arith, number_below)))
  last_or_none test (suc n) = ⊎_elim
      (λ (none_picked : IsNone test n). ⊎_elim
      (λ (new_picked : test n ≡ true). inr (n, last_alone test n none_picked new_picked))
      (λ (unpicked : test n ≡ false). inl (none_more test n none_picked unpicked))
      (cases_Bool (test n)))
      (λ (old : (last_number : ℕ) × IsLast test n last_number). ⊎_elim
      (λ (new_picked : test n ≡ true). ⊎_elim
      (λ (same_number : old.0 ≡ n). absurd (omega (arith, same_number, old.1.below)))
      (λ (order : ComesBefore live old.0 n ⊎ ComesBefore live n old.0). inr (last_of_more test n old.0 old.1 new_picked order))
      (one_before old.0 n))
      (λ (unpicked : test n ≡ false). inr (old.0, last_as_before test n old.0 old.1 unpicked))
      (cases_Bool (test n)))
      (last_or_none test n)
