-- The hints of bundles, and who steals them: where nothing else changes, all that is said of a bundle and of its machines still holds.
use Rattle.std.proofs.Common.{◌≡◌, ◌⊎◌, inl, inr, ⊎_elim, ◌≢◌, ℕ, zero, suc, ◌+◌, ◌<◌, Bool, true, false, List, [], ◌∷◌, ◌++◌, length, get_or, Some, refl, sym, ap, ◌∙◌, subst, arith}
use Rattle.std.specs.Prelude.{slice_get, slice_set, ◌==◌}
use Rattle.std.proofs.lemmas.Bool.Decides.{nat_tests}
use Rattle.std.proofs.lemmas.List.{length-set}
use Rattle.std.proofs.lemmas.Option.{same_Some}
use Rattle.heap_words.specs.declared.config.Config.{Config}
use Rattle.shared_table.specs.Views.{View, machine_of, kept_in_view}
use Rattle.shared_table.specs.Counted.{uncounted_view, steps_in_view}
use Rattle.heap_machines.specs.Shown.{order_of}
use Rattle.step_core.specs.Actor.{Actor}
use Rattle.table_heap.specs.declared.bundle.Bundle.{Bundle}
use Rattle.table_heap.specs.declared.heap.Heap.{Heap}
use Rattle.table_heap.specs.State.{IsFresh}
use Rattle.table_heap.specs.Sharing.{HaveConfig, SharesMore, AllShareMore, StealsFrom, StealFrom}
use Rattle.table_heap.specs.Turning.{OnlyHintsDiffer}
use Rattle.table_heap.proofs.Hinting.{same_after}
use Rattle.table_heap.proofs.Running.{still_of}

only_more : (first_bundle middle_bundle last_bundle : Bundle) → OnlyHintsDiffer first_bundle middle_bundle → OnlyHintsDiffer middle_bundle last_bundle → OnlyHintsDiffer first_bundle last_bundle
only_more bundle other_bundle last_bundle first_differs second_differs = record {
  config = second_differs.config ∙ first_differs.config;
  key = second_differs.key ∙ first_differs.key;
  seat = second_differs.seat ∙ first_differs.seat;
  machines = second_differs.machines ∙ first_differs.machines;
  greyed = second_differs.greyed ∙ first_differs.greyed;
}

shares_more : (first_bundle middle_bundle last_bundle : Bundle) → SharesMore first_bundle middle_bundle → SharesMore middle_bundle last_bundle → SharesMore first_bundle last_bundle
shares_more bundle other_bundle last_bundle first_shares second_shares = record {
  only = only_more bundle other_bundle last_bundle first_shares.only second_shares.only;
  deque = second_shares.deque ∙ first_shares.deque;
  thieves = λ place thief thief_there. second_shares.thieves place thief (first_shares.thieves place thief thief_there);
}

-- who steals another's hints does so still
steals_still : (bundle next_bundle own_bundle next_own : Bundle) → SharesMore bundle next_bundle → SharesMore own_bundle next_own → StealsFrom bundle own_bundle → StealsFrom next_bundle next_own
steals_still bundle next_bundle own_bundle next_own bundle_shares own_shares from = record {
  place = from.place;
  thief = from.thief;
  there = bundle_shares.thieves from.place from.thief from.there;
  steals = from.steals ∙ sym own_shares.deque;
}

-- a bundle before the first event is so still
pub fresh_still : (heap : Heap) (bundle next_bundle : Bundle) (view : View Actor) → OnlyHintsDiffer bundle next_bundle → IsFresh heap bundle view → IsFresh heap next_bundle view
fresh_still heap bundle next_bundle view hints_differ fresh = record {
  of = still_of bundle next_bundle heap (same_after bundle next_bundle hints_differ) fresh.of;
  machines = ap (λ seat. uncounted_view seat.me.0) hints_differ.seat ∙ fresh.machines;
  orders = λ number order kept_there. fresh.orders number order (ap (λ some_machines. machine_of (kept_in_view order_of some_machines.items) number) (sym hints_differ.machines) ∙ kept_there);
  steps = λ number made kept_there. fresh.steps number made (ap (λ seat. machine_of (steps_in_view seat.me.0) number) (sym hints_differ.seat) ∙ kept_there);
  greyed = λ number address kept_there. fresh.greyed number address (ap (λ greyed_view. machine_of greyed_view.items number) (sym hints_differ.greyed) ∙ kept_there);
}

-- what stands at a place after a change of one place
set_place : {R : Type 0} (xs : List R) (place : ℕ) (changed : R) (index : ℕ) (x : R) → slice_get (slice_set xs place changed) index ≡ Some x → ((index ≡ place) × (changed ≡ x)) ⊎ (slice_get xs index ≡ Some x)
set_place [] place changed index x element_there = inr element_there
set_place (y ∷ ys) zero changed zero x element_there = inl (refl, same_Some changed x element_there)
set_place (y ∷ ys) zero changed (suc index) x element_there = inr element_there
set_place (y ∷ ys) (suc place) changed zero x element_there = inr element_there
set_place (y ∷ ys) (suc place) changed (suc index) x element_there = ⊎_elim
    (λ (changed_there : (index ≡ place) × (changed ≡ x)). inl (ap suc changed_there.0, changed_there.1))
    (λ (unchanged : slice_get ys index ≡ Some x). inr unchanged)
    (set_place ys place changed index x element_there)

-- what is read at a place stands there
pub read_place : (bundles : List Bundle) (place : ℕ) (bundle : Bundle) → place < length bundles → bundle ≡ get_or bundles place bundle → slice_get bundles place ≡ Some bundle
read_place [] place bundle place_below bundle_read = absurd (omega (arith, place_below))
read_place (first_bundle ∷ rest) zero bundle place_below bundle_read = ap (λ (bundle : Bundle). Some bundle) (sym bundle_read)
read_place (first_bundle ∷ rest) (suc place) bundle place_below bundle_read = read_place rest place bundle (omega (arith, place_below)) bundle_read

pub none_changed : (bundles : List Bundle) → AllShareMore bundles bundles
none_changed bundles = record { count = refl; each = λ number bundle bundle_there. (bundle, bundle_there, record { only = record { config = refl; key = refl; seat = refl; machines = refl; greyed = refl }; deque = refl; thieves = λ place thief thief_there. thief_there }) }

-- the hints of one bundle more differ
pub one_changed : (old now : List Bundle) (place : ℕ) (bundle next_bundle : Bundle) → AllShareMore old now → slice_get now place ≡ Some bundle → SharesMore bundle next_bundle → AllShareMore old (slice_set now place next_bundle)
one_changed old now place bundle next_bundle differ bundle_there shares = record {
  count = length-set now place next_bundle ∙ differ.count;
  each = λ index asked_bundle then_there. ⊎_elim
      (λ (same_place : (index ≡ place) × (next_bundle ≡ asked_bundle)).
      let bundle_before = differ.each place bundle bundle_there in
      (bundle_before.0, ap (slice_get old) same_place.0 ∙ bundle_before.1, subst (SharesMore bundle_before.0) same_place.1 (shares_more bundle_before.0 bundle next_bundle bundle_before.2 shares)))
      (λ (another_place : slice_get now index ≡ Some asked_bundle). differ.each index asked_bundle another_place)
      (set_place now place next_bundle index asked_bundle then_there);
}

pub in_more : (old mid new : List Bundle) → AllShareMore old mid → AllShareMore mid new → AllShareMore old new
in_more old mid new first_shares second_shares = record {
  count = second_shares.count ∙ first_shares.count;
  each = λ place bundle bundle_there.
      let bundle_before = second_shares.each place bundle bundle_there in
      let shared_before = first_shares.each place bundle_before.0 bundle_before.1 in
      (shared_before.0, shared_before.1, shares_more shared_before.0 bundle_before.0 bundle shared_before.2 bundle_before.2);
}

-- the one that is read at a place
pub read_changed : (bundles : List Bundle) (place : ℕ) (bundle next_bundle : Bundle) → place < length bundles → bundle ≡ get_or bundles place bundle → SharesMore bundle next_bundle → AllShareMore bundles (slice_set bundles place next_bundle)
read_changed bundles place bundle next_bundle place_below bundle_read shares = one_changed bundles bundles place bundle next_bundle (none_changed bundles) (read_place bundles place bundle place_below bundle_read) shares

-- and then another
pub both_changed : (bundles : List Bundle) (first_place second_place : ℕ) (first_before first_after second_before second_after : Bundle) → first_place < length bundles → second_place < length bundles → first_before ≡ get_or bundles first_place first_before → SharesMore first_before first_after
    → second_before ≡ get_or (slice_set bundles first_place first_after) second_place second_before → SharesMore second_before second_after → AllShareMore bundles (slice_set (slice_set bundles first_place first_after) second_place second_after)
both_changed bundles first_place second_place bundle after_first second_before second_after first_below place_within first_read first_shares then_is second_shares =
    let same_length = length-set bundles first_place after_first in
    in_more bundles (slice_set bundles first_place after_first) _ (read_changed bundles first_place bundle after_first first_below first_read first_shares) (read_changed (slice_set bundles first_place after_first) second_place second_before second_after (omega (arith, same_length, place_within)) then_is second_shares)

-- the bundles have the configuration still
pub config_still : (config : Config) (old new : List Bundle) → AllShareMore old new → HaveConfig config old → HaveConfig config new
config_still config old new differ have_config place bundle bundle_there = let bundle_before = differ.each place bundle bundle_there in bundle_before.2.only.config ∙ have_config place bundle_before.0 bundle_before.1

-- so do some bundles
pub steal_still : (bound number : ℕ) (old new : List Bundle) → AllShareMore old new → StealFrom bound old number → StealFrom bound new number
steal_still bound number old new shares from index bundle own_bundle index_under numbers_differ bundle_there own_there =
    let bundle_before = shares.each index bundle bundle_there in
    let own_before = shares.each number own_bundle own_there in
    steals_still bundle_before.0 bundle own_before.0 own_bundle bundle_before.2 own_before.2 (from index bundle_before.0 own_before.0 index_under numbers_differ bundle_before.1 own_before.1)

-- and one more
pub one_steals : (index number : ℕ) (bundles : List Bundle) → StealFrom index bundles number
    → ((bundle own_bundle : Bundle) → index ≢ number → slice_get bundles index ≡ Some bundle → slice_get bundles number ≡ Some own_bundle → StealsFrom bundle own_bundle) → StealFrom (index + 1) bundles number
one_steals index number bundles from next_steals asked_index bundle own_bundle index_under numbers_differ bundle_there own_there = by_number (asked_index == index) refl
  where
    by_number : (holds : Bool) → (asked_index == index) ≡ holds → StealsFrom bundle own_bundle
    by_number true index_test =
        let same_index : asked_index ≡ index = grind (arith, nat_tests) in
        next_steals bundle own_bundle (subst (λ x. x ≢ number) same_index numbers_differ) (ap (slice_get bundles) (sym same_index) ∙ bundle_there) own_there
    by_number false index_test = from asked_index bundle own_bundle (grind (arith, nat_tests)) numbers_differ bundle_there own_there

-- the hints of one bundle more are shared
pub more_shared : (last_number : ℕ) (old new : List Bundle) → AllShareMore old new → ((number : ℕ) → number < last_number → StealFrom (length old) old number) → StealFrom (length old) new last_number
    → (number : ℕ) → number < last_number + 1 → StealFrom (length new) new number
more_shared n old new shares steals_before last_steals number number_under = subst (λ bound. StealFrom bound new number) (sym shares.count) (by_number (number == n) refl)
  where
    by_number : (holds : Bool) → (number == n) ≡ holds → StealFrom (length old) new number
    by_number true number_test = let same_number : number ≡ n = grind (arith, nat_tests) in subst (StealFrom (length old) new) (sym same_number) last_steals
    by_number false number_test = steal_still (length old) number old new shares (steals_before number (grind (arith, nat_tests)))

pub first_places : {R : Type 0} (xs : List R) (x : R) (place : ℕ) (y : R) → slice_get xs place ≡ Some y → slice_get (xs ++ x ∷ []) place ≡ Some y
first_places [] x place y element_there = absurd cc
first_places (z ∷ zs) x zero y element_there = element_there
first_places (z ∷ zs) x (suc place) y element_there = first_places zs x place y element_there

-- what stands at a changed place
pub changed_place : {R : Type 0} (xs : List R) (place : ℕ) (changed x : R) → place < length xs → slice_get (slice_set xs place changed) place ≡ Some x → changed ≡ x
changed_place [] place changed x place_below element_there = absurd (omega (arith, place_below))
changed_place (y ∷ ys) zero changed x place_below element_there = same_Some changed x element_there
changed_place (y ∷ ys) (suc place) changed x place_below element_there = changed_place ys place changed x (omega (arith, place_below)) element_there

-- and at another one
pub other_place : {R : Type 0} (xs : List R) (place : ℕ) (changed x : R) (index : ℕ) → index ≢ place → slice_get (slice_set xs place changed) index ≡ Some x → slice_get xs index ≡ Some x
other_place xs place changed x index places_differ element_there = ⊎_elim
    (λ (changed_there : (index ≡ place) × (changed ≡ x)). absurd (places_differ changed_there.0))
    (λ (unchanged : slice_get xs index ≡ Some x). unchanged)
    (set_place xs place changed index x element_there)
