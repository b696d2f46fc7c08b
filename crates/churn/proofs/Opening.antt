-- How the workload begins.
use Rattle.std.proofs.Common.{ℕ, zero, suc, ◌≡◌, ◌≤◌, ◌⊎◌, Bool, true, false, List, [], ◌∷◌, length, get_or, Some, None, refl, ap, ◌∙◌, sym, subst, inl, inr, arith}
use Rattle.std.specs.Prelude.{if◌then◌else◌, ◌&&◌, ◌==◌, nat_le}
use Rattle.std.specs.List.{AllByRecursion, flat_map, range_with_len}
use Rattle.std.proofs.lemmas.Bool.{cases_lt, ne_eqb, false≢true}
use Rattle.std.proofs.lemmas.Bool.Decides.{leb_tells}
use Rattle.std.proofs.lemmas.List.{get_or_past}
use Rattle.shen_graph.proofs.Lists.{all_append}
use Rattle.shen_graph.specs.declared.command.Command.TheVariants.{Set}
use Rattle.shen_graph.specs.Graph.{Object, named, hub, opening}
use Rattle.shen_graph.specs.Reach.{size}
use Rattle.shen_graph.specs.History.{Entry, of_thread, commands_of, script_of, Follows}
use Rattle.churn.specs.Script.{round, churn_script, churn_scripts, shared_hub, own_box}
use Rattle.churn.proofs.Belongings.{IsThread, own, IsLeaf, IsLink, IsBox, field_of, Tidy}
use Rattle.churn.proofs.Moves.{not_hub_too, none_in}
use Rattle.churn.proofs.Commands.{IsLater}
use Rattle.churn.proofs.Commands.IsLater.{makes, writes, links, stores, drops, loads, reads, swaps, exchanges}
use Rattle.churn.proofs.BelowTheHub.{Going}

pub thread_cases : (thread : ℕ) → IsThread thread → (thread ≡ 1) ⊎ ((thread ≡ 2) ⊎ (thread ≡ 3))
thread_cases thread is_thread =
    elim (cases_lt thread 2) [
      | inl first_thread ↦ inl (omega arith)
      | inr later_thread ↦ elim (cases_lt thread 3) [ inl second_thread ↦ inr (inl (omega arith)) | inr third_thread ↦ inr (inr (omega arith)) ]
    ]

-- three tests together
third_false : (first_test second_test last_test : Bool) → last_test ≡ false → (first_test && second_test && last_test) ≡ false
third_false true true last_test last_false = last_false
third_false true false last_test last_false = refl
third_false false second_test last_test last_false = refl

first_two : (first_test second_test last_test : Bool) → (first_test && second_test && last_test) ≡ true → (first_test ≡ true) × (second_test ≡ true)
first_two true true last_test all_hold = (refl, refl)
first_two true false last_test all_hold = absurd (false≢true all_hold)
first_two false second_test last_test all_hold = absurd (false≢true all_hold)

from_test : (m n : ℕ) → nat_le m n ≡ true → m ≤ n
from_test m n test_true = elim (leb_tells m n) [ inl test_told ↦ test_told.1 | inr test_told ↦ absurd (false≢true (sym test_told.0 ∙ test_true)) ]

pub begins_none : (thread index : ℕ) → 1 ≤ index → (opening 3).root thread index ≡ None
begins_none thread index some_index =
    let test_false : (nat_le 1 thread && nat_le thread 3 && (index == 0)) ≡ false = third_false (nat_le 1 thread) (nat_le thread 3) (index == 0) (ne_eqb index 0 (λ (index_zero : index ≡ 0). omega (arith, some_index))) in
    rw test_false refl

begins_out : (thread index : ℕ) → (IsThread thread → ⊥) → (opening 3).root thread index ≡ None
begins_out thread index no_thread = at (nat_le 1 thread && nat_le thread 3 && (index == 0)) refl
  where
    at : (outcome : _) → (nat_le 1 thread && nat_le thread 3 && (index == 0)) ≡ outcome → (if outcome then Some hub else None) ≡ None
    at true test_outcome =
        let both_bounds = first_two (nat_le 1 thread) (nat_le thread 3) (index == 0) test_outcome in
        absurd (no_thread (from_test 1 thread both_bounds.0, from_test thread 3 both_bounds.1))
    at false test_outcome = refl

begins_bare : (thread count : ℕ) → IsThread thread → named (opening 3) (Some (own thread count)) ≡ record { refs = []; nums = [] }
begins_bare thread count is_thread = rw (not_hub_too thread count is_thread) refl

bare_field : (thread count field : ℕ) → IsThread thread → field_of (opening 3) (own thread count) field ≡ None
bare_field thread count field is_thread = ap (λ (object : Object). get_or object.refs field None) (begins_bare thread count is_thread) ∙ get_or_past [] field None (omega arith)

pub tidy_opening : Tidy (opening 3)
tidy_opening = record {
  hub_is = refl;
  hub_size = refl;
  hub_nums = refl;
  links = λ f. subst (IsLink f) (sym (none_in 16 f)) tt;
  threads = λ thread is_thread. record {
    hub_root = elim (thread_cases thread is_thread) as (λ _. (opening 3).root thread 0 ≡ Some hub) [
      | inl first_thread ↦ rw first_thread refl
      | inr later_thread ↦ elim later_thread as (λ _. (opening 3).root thread 0 ≡ Some hub) [ inl second_thread ↦ rw second_thread refl | inr third_thread ↦ rw third_thread refl ]
    ];
    box_root = subst (IsBox thread) (sym (begins_none thread 1 (omega arith))) tt;
    leaf_root = λ index past_bound. subst (IsLeaf thread) (sym (begins_none thread index (omega arith))) tt;
    slots = λ f. subst (IsLeaf thread) (sym (bare_field thread 1 f is_thread)) tt;
    slot_count = subst (λ (object : Object). length object.refs ≤ 16) (sym (begins_bare thread 1 is_thread)) (omega arith);
    leaves = λ number f past_bound. bare_field thread number f is_thread;
    small = λ number. subst (λ (object : Object). size object ≤ 19) (sym (begins_bare thread number is_thread)) (omega arith);
  };
  high_root = λ thread index past_bound. begins_none thread index (omega arith);
  no_root = begins_out;
  no_count = λ thread no_thread. refl;
  no_object = λ name no_thread not_hub. rw not_hub refl;
  no_pin = λ mutator slot. refl;
}

-- the commands after a thread's first

round_later : (field seed round_number : ℕ) → AllByRecursion (IsLater field) (round seed round_number)
round_later field seed round_number = (makes _ _ (omega arith), (writes _, (stores _, (drops, (loads _, (reads, (swaps _, (exchanges _, tt))))))))

rounds_later : (field seed : ℕ) (rounds : List ℕ) → AllByRecursion (IsLater field) (flat_map (round seed) rounds)
rounds_later field seed [] = tt
rounds_later field seed (round_number ∷ rounds) = all_append (IsLater field) (round seed round_number) (flat_map (round seed) rounds) (round_later field seed round_number) (rounds_later field seed rounds)

pub script_later : (seed count field : ℕ) → AllByRecursion (IsLater field) (Set shared_hub field own_box ∷ flat_map (round seed) (range_with_len 0 count))
script_later seed count field = (links, rounds_later field seed (range_with_len 0 count))

pub script_is : (seed count thread : ℕ) → IsThread thread → script_of (churn_scripts seed count) thread ≡ churn_script seed count thread
script_is seed count thread is_thread =
    elim (thread_cases thread is_thread) as (λ _. script_of (churn_scripts seed count) thread ≡ churn_script seed count thread) [
      | inl first_thread ↦ rw first_thread refl
      | inr later_thread ↦ elim later_thread as (λ _. script_of (churn_scripts seed count) thread ≡ churn_script seed count thread) [ inl second_thread ↦ rw second_thread refl | inr third_thread ↦ rw third_thread refl ]
    ]

pub script_none : (seed count thread : ℕ) → (IsThread thread → ⊥) → script_of (churn_scripts seed count) thread ≡ []
script_none seed count zero no_thread = refl
script_none seed count (suc thread) no_thread =
    elim (cases_lt thread 3) [
      | inl index_below ↦ absurd (no_thread (omega arith, omega arith))
      | inr index_past ↦ get_or_past (churn_scripts seed count) thread [] (omega arith)
    ]

nothing_of : (entries : List Entry) → commands_of entries ≡ [] → entries ≡ []
nothing_of [] no_commands = refl
nothing_of (entry ∷ entries) no_commands = cc

-- a history that follows the scripts begins with all of them ahead
pub going_opening : (seed count : ℕ) (entries : List Entry) → Follows (churn_scripts seed count) entries → Going (opening 3) entries
going_opening seed count entries entries_follow = record {
  ahead = λ thread is_thread. inl (refl, (Set shared_hub thread own_box ∷ flat_map (round seed) (range_with_len 0 count), entries_follow thread ∙ script_is seed count thread is_thread, script_later seed count thread));
  others = λ asked_thread no_thread. nothing_of (of_thread entries asked_thread) (entries_follow asked_thread ∙ script_none seed count asked_thread no_thread);
}
