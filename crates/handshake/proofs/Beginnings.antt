-- The handshake and the count where runs begin: all are outside, and no mutator has ended.
use Rattle.std.proofs.Common.{◌≡◌, ℕ, ◌<◌, ◌≤◌, Bool, true, false, List, [], ◌∷◌, length, Some, zero, suc, refl, sym, ap, ◌∙◌, subst, arith}
use Rattle.std.specs.Prelude.{slice_get, count_by, nat_eq}
use Rattle.std.proofs.lemmas.Bool.Decides.{nat_tests}
use Rattle.heap_words.proofs.Lists.{index_in_range}
use Rattle.heap_words.specs.declared.config.Config.{Config}
use Rattle.heap_words.specs.Ranges.{seat_count}
use Rattle.heap_words.specs.Words.{Pause, Left, State, table_words, view}
use Rattle.heap_words.specs.Steps.{Stage}
use Rattle.handshake.specs.Standing.{Standing, outside, idle, state_word, pause_word, is_within, HasSeat, control_seat}
use Rattle.handshake.specs.Shaken.{IsShaken}
use Rattle.handshake.specs.Left.{AreLeftCounted}
use Rattle.handshake.proofs.Counting.{weight, count_by-cons}

-- all are outside, the control is idle, and the words say so
pub shaken_begins : {R : Type 0} (config : Config) (standing : R → Standing) (stage : Stage R) (control : R) → length stage.words ≡ table_words config → length stage.machines ≡ seat_count config.mutators config.helpers
    → slice_get stage.machines (control_seat config) ≡ Some control → standing control ≡ idle
    → ((seat : ℕ) (found_machine : R) → seat < control_seat config → slice_get stage.machines seat ≡ Some found_machine → standing found_machine ≡ outside)
    → view config stage.words Pause ≡ 0 → ((seat : ℕ) → seat < control_seat config → view config stage.words (State seat) ≡ 0)
    → IsShaken config standing stage
shaken_begins {R} given_config standing given_stage control machines_counted machines has_control is_idle all_outside pause states = record {
  words = machines_counted;
  control = control;
  there = has_control;
  seated = λ seat found_machine machine_there. by_seat seat found_machine machine_there (nat_eq seat (control_seat given_config)) refl;
  pause = pause ∙ sym (ap pause_word is_idle);
  states = λ seat found_machine before_control machine_there. states seat before_control ∙ sym (ap state_word (all_outside seat found_machine before_control machine_there));
  checked = λ seat found_machine before_control machine_there checked. ap is_within (all_outside seat found_machine before_control machine_there);
}
  where
    by_seat : (seat : ℕ) (machine : R) → slice_get given_stage.machines seat ≡ Some machine → (holds : Bool) → nat_eq seat (control_seat given_config) ≡ holds → HasSeat given_config seat (standing machine)
    by_seat seat machine has_machine true seat_test =
        let same_seat : seat ≡ control_seat given_config = grind (arith, nat_tests) in
        let control_machine : slice_get given_stage.machines (control_seat given_config) ≡ Some machine = subst (λ any_seat. slice_get given_stage.machines any_seat ≡ Some machine) same_seat has_machine in
        let same_machine : control ≡ machine = cc (control_machine, has_control) in
        subst (HasSeat given_config seat) (sym is_idle ∙ ap standing same_machine) same_seat
    by_seat seat machine has_machine false seat_test =
        let seat_below : seat < control_seat given_config = grind (arith, nat_tests, index_in_range given_stage.machines seat machine has_machine, machines) in
        subst (HasSeat given_config seat) (sym (all_outside seat machine seat_below has_machine)) seat_below

-- as many are counted as stand first
count_first : {R : Type 0} (p : R → Bool) (machines : List R) (count : ℕ) → count ≤ length machines
    → ((index : ℕ) (machine : R) → index < count → slice_get machines index ≡ Some machine → p machine ≡ true) → ((index : ℕ) (machine : R) → count ≤ index → slice_get machines index ≡ Some machine → p machine ≡ false)
    → count_by p machines ≡ count
count_first p [] count long_enough first_counted others_false = omega (arith, long_enough)
count_first p (machine ∷ machines) zero long_enough first_counted others_false =
    omega (arith, count_by-cons p machine machines, ap weight (others_false 0 machine (omega arith) refl), count_first p machines 0 (omega arith) (λ index later_machine index_below has_machine. absurd (omega (arith, index_below))) (λ index later_machine index_above has_machine. others_false (suc index) later_machine (omega arith) has_machine))
count_first p (machine ∷ machines) (suc count) long_enough first_counted others_false =
    omega (arith, count_by-cons p machine machines, ap weight (first_counted 0 machine (omega arith) refl), count_first p machines count (omega (arith, long_enough)) (λ index later_machine index_below has_machine. first_counted (suc index) later_machine (omega (arith, index_below)) has_machine) (λ index later_machine index_above has_machine. others_false (suc index) later_machine (omega (arith, index_above)) has_machine))

-- no mutator has ended, and the word says how many there are
pub counted_begins : {R : Type 0} (config : Config) (is_left : R → Bool) (stage : Stage R) → length stage.words ≡ table_words config → length stage.machines ≡ seat_count config.mutators config.helpers
    → ((mutator : ℕ) (machine : R) → mutator < config.mutators → slice_get stage.machines mutator ≡ Some machine → is_left machine ≡ true) → ((mutator : ℕ) (machine : R) → config.mutators ≤ mutator → slice_get stage.machines mutator ≡ Some machine → is_left machine ≡ false)
    → view config stage.words Left ≡ config.mutators → AreLeftCounted config is_left stage
counted_begins config is_left stage table_length machines first_left others_false count = record {
  words = table_length;
  few = omega (arith, machines, config.in_range.most_mutators, config.in_range.most_helpers);
  counts = count ∙ sym (count_first is_left stage.machines config.mutators (omega (arith, machines)) first_left others_false);
}
