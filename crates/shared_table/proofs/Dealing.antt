-- Machines are dealt to bundles in turn, and each bundle joined to those below gives the next.
use Rattle.std.proofs.Common.{◌≡◌, ℕ, zero, suc, Bool, true, false, not, [], ◌∷◌, length, Option, Some, None, refl, sym, ap, ◌∙◌, ◌<◌, ◌+◌, arith}
use Rattle.std.specs.Prelude.{if◌then◌else◌}
use Rattle.std.proofs.lemmas.Bool.Decides.{nat_tests}
use Rattle.shared_table.specs.Views.{View, machine_of, machines_picked, machines_left, merged, is_dealt_to, is_dealt_below, dealt_to, dealt_below, whichever_is_there}
use Rattle.shared_table.specs.Laws.{DealingLaws}
use Rattle.shared_table.proofs.ViewsShow.{machine_of-picked, machine_of-merged}

module _ {R : Type 0} where
  -- views as long as each other are one where they have the same machines
  pub same_view : (view other_view : View R) → length view ≡ length other_view → ((thread : ℕ) → machine_of view thread ≡ machine_of other_view thread) → view ≡ other_view
  same_view [] [] same_length each_same = refl
  same_view [] (other_first ∷ other_rest) same_length each_same = absurd (omega arith)
  same_view (first ∷ rest) [] same_length each_same = absurd (omega arith)
  same_view (first ∷ rest) (other_first ∷ other_rest) same_length each_same =
      let head : first ≡ other_first = each_same zero in
      let tail : rest ≡ other_rest = same_view rest other_rest (omega arith) (λ thread. each_same (suc thread)) in
      cc

  pub length-picked : (test : ℕ → Bool) (view : View R) → length (machines_picked test view) ≡ length view
  length-picked test [] = refl
  length-picked test (first ∷ rest) = ap suc (length-picked (λ thread. test (suc thread)) rest)

  pub length-merged : (view other_view : View R) → length view ≡ length other_view → length (merged view other_view) ≡ length view
  length-merged [] [] same_length = refl
  length-merged [] (other_first ∷ other_rest) same_length = absurd (omega arith)
  length-merged (first ∷ rest) [] same_length = refl
  length-merged (first ∷ rest) (other_first ∷ other_rest) same_length = ap suc (length-merged rest other_rest (omega arith))

  pub picked_same : (test other_test : ℕ → Bool) (view : View R) → ((thread : ℕ) → test thread ≡ other_test thread) → machines_picked test view ≡ machines_picked other_test view
  picked_same test other_test view same_test = same_view _ _ (length-picked test view ∙ sym (length-picked other_test view))
      (λ thread. let picked = machine_of-picked test view thread in let other_picked = machine_of-picked other_test view thread in rw (picked, other_picked, same_test thread) refl)

  -- what passes one test and then another passes both
  pub picked_twice : (test other_test joint_test : ℕ → Bool) (view : View R) → ((thread : ℕ) → (if test thread then other_test thread else false) ≡ joint_test thread) → machines_picked test (machines_picked other_test view) ≡ machines_picked joint_test view
  picked_twice test other_test joint_test view both_pass = same_view _ _ (length-picked test (machines_picked other_test view) ∙ length-picked other_test view ∙ sym (length-picked joint_test view))
      (λ thread.
      let twice_picked = machine_of-picked test (machines_picked other_test view) thread in
      let other_picked = machine_of-picked other_test view thread in
      let joint_picked = machine_of-picked joint_test view thread in
      rw (twice_picked, other_picked, joint_picked, ← both_pass thread) (by_tests (test thread) (other_test thread) (machine_of view thread)))
    where
      by_tests : (passes other_passes : Bool) (found : Option R) → (if passes then (if other_passes then found else None) else None) ≡ (if (if passes then other_passes else false) then found else None)
      by_tests true other_passes found = refl
      by_tests false other_passes found = refl

  -- what passes one test or another, of two parts of one view
  pub merged_picked : (test other_test either_test : ℕ → Bool) (view : View R) → ((thread : ℕ) → (if test thread then true else other_test thread) ≡ either_test thread) → merged (machines_picked test view) (machines_picked other_test view) ≡ machines_picked either_test view
  merged_picked test other_test either_test view either_passes = same_view _ _ (length-merged _ _ (length-picked test view ∙ sym (length-picked other_test view)) ∙ length-picked test view ∙ sym (length-picked either_test view))
      (λ thread.
      let merged_machine = machine_of-merged (machines_picked test view) (machines_picked other_test view) thread in
      let picked = machine_of-picked test view thread in
      let other_picked = machine_of-picked other_test view thread in
      let either_picked = machine_of-picked either_test view thread in
      rw (merged_machine, picked, other_picked, either_picked, ← either_passes thread) (by_tests (test thread) (other_test thread) (machine_of view thread)))
    where
      by_tests : (passes picked : Bool) (found : Option R) → whichever_is_there (if passes then found else None) (if picked then found else None) ≡ (if (if passes then true else picked) then found else None)
      by_tests true picked None = by_b picked
        where
          by_b : (other_passes : Bool) → ◌≡◌ {A = Option R} (if other_passes then None else None) None
          by_b true = refl
          by_b false = refl
      by_tests true picked (Some machine) = refl
      by_tests false picked found = refl

  -- what passes every test
  pub picked_all : (test : ℕ → Bool) (view : View R) → ((thread : ℕ) → test thread ≡ true) → machines_picked test view ≡ view
  picked_all test view each_passes = same_view _ _ (length-picked test view) (λ thread. let picked = machine_of-picked test view thread in rw (picked, each_passes thread) refl)

  -- a part and what is left over are all
  pub merged_rest : (test : ℕ → Bool) (view : View R) → merged (machines_left test view) (machines_picked test view) ≡ view
  merged_rest test view = merged_picked (λ thread. not (test thread)) test (λ thread. true) view (λ thread. or_not (test thread)) ∙ picked_all (λ thread. true) view (λ thread. refl)
    where
      or_not : (holds : Bool) → (if not holds then true else holds) ≡ true
      or_not true = refl
      or_not false = refl

  module _ (bundles bundle : ℕ) (view : View R) where
    pub deals_all : 0 < bundles → dealt_below bundles bundles view ≡ view
    deals_all positive = picked_all (is_dealt_below bundles bundles) view (λ thread. grind (arith, nat_tests))

    pub deals_first : dealt_below bundles 1 view ≡ dealt_to bundles 0 view
    deals_first = picked_same (is_dealt_below bundles 1) (is_dealt_to bundles 0) view (λ thread. grind (arith, nat_tests))

    pub deals_one : machines_picked (is_dealt_to bundles bundle) (dealt_below bundles (bundle + 1) view) ≡ dealt_to bundles bundle view
    deals_one = picked_twice (is_dealt_to bundles bundle) (is_dealt_below bundles (bundle + 1)) (is_dealt_to bundles bundle) view (λ thread. grind (arith, nat_tests))

    pub deals_rest : machines_left (is_dealt_to bundles bundle) (dealt_below bundles (bundle + 1) view) ≡ dealt_below bundles bundle view
    deals_rest = picked_twice (λ thread. not (is_dealt_to bundles bundle thread)) (is_dealt_below bundles (bundle + 1)) (is_dealt_below bundles bundle) view (λ thread. grind (arith, nat_tests))

    pub gathers_one : merged (dealt_below bundles bundle view) (dealt_to bundles bundle view) ≡ dealt_below bundles (bundle + 1) view
    gathers_one = merged_picked (is_dealt_below bundles bundle) (is_dealt_to bundles bundle) (is_dealt_below bundles (bundle + 1)) view (λ thread. grind (arith, nat_tests))

  pub dealing : (bundles : ℕ) (view : View R) → DealingLaws R bundles view
  dealing bundles view = record {
    has = λ bundle number. machine_of-picked (is_dealt_to bundles bundle) view number;
    all = deals_all bundles 0 view;
    first = deals_first bundles 0 view;
    cut_off = λ bundle. deals_one bundles bundle view;
    left = λ bundle. deals_rest bundles bundle view;
    joined = λ bundle. gathers_one bundles bundle view;
    cut_and_joined = λ test. merged_rest test view;
  }
