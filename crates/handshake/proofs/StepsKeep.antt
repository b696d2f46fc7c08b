-- One step keeps the handshake: that of a mutator or helper, and that of the control.
use Rattle.std.proofs.Common.{◌≡◌, ◌≢◌, ℕ, ◌<◌, Bool, List, length, true, false, Some, refl, sym, ◌∙◌, subst, arith}
use Rattle.std.specs.Prelude.{slice_get, slice_set, nat_eq}
use Rattle.std.proofs.lemmas.Bool.Decides.{nat_tests}
use Rattle.heap_words.proofs.Lists.{slice_get-set_other, slice_get-set_same}
use Rattle.heap_words.specs.declared.config.Config.{Config}
use Rattle.heap_words.specs.Words.{Pause, State, view}
use Rattle.heap_words.specs.Steps.{Stage}
use Rattle.handshake.specs.Standing.{Standing, state_word, pause_word, is_within, is_checked, HasSeat, control_seat}
use Rattle.handshake.specs.Shaken.{IsShaken}

-- What holds of the new machine at its number, and of the old ones elsewhere, holds of each machine after a step.
pub machine_cases : {R : Type 0} (machines : List R) (number : ℕ) (old new : R) → slice_get machines number ≡ Some old
    → (index : ℕ) (machine : R) → slice_get (slice_set machines number new) index ≡ Some machine → (P : R → Type 0)
    → (index ≡ number → P new) → (index ≢ number → slice_get machines index ≡ Some machine → P machine) → P machine
machine_cases {R} machines number old new old_there place machine_found at_k P at_number elsewhere = by_number (nat_eq place number) refl
  where
    by_number : (holds : Bool) → nat_eq place number ≡ holds → P machine_found
    by_number true number_test =
        let same_number : place ≡ number = grind (arith, nat_tests) in
        let is_new : new ≡ machine_found = cc (at_k, same_number, slice_get-set_same machines number old new old_there) in
        subst P is_new (at_number same_number)
    by_number false number_test =
        let other_number : place ≢ number = grind (arith, nat_tests) in
        elsewhere other_number (sym (slice_get-set_other machines number place new other_number) ∙ at_k)

module _ {R : Type 0} (config : Config) (standing : R → Standing) (stage : Stage R) (shaken : IsShaken config standing stage) (number : ℕ) (old new : R) (machine_there : slice_get stage.machines number ≡ Some old) (words : List ℕ) (same_length : length words ≡ length stage.words) where
  -- the stage after the step
  abbrev stepped : Stage R
  stepped = record { words = words; machines = slice_set stage.machines number new }

  -- where each machine is seated after the step
  seated_then : HasSeat config number (standing new) → (index : ℕ) (machine : R) → slice_get (slice_set stage.machines number new) index ≡ Some machine → HasSeat config index (standing machine)
  seated_then new_seated index machine at_k = machine_cases stage.machines number old new machine_there index machine at_k (λ any_machine. HasSeat config index (standing any_machine))
      (λ same_index. subst (λ any_number. HasSeat config any_number (standing new)) (sym same_index) new_seated)
      (λ other_index at_old. shaken.seated index machine at_old)

  -- the step of a mutator or helper
  pub seat_keeps : number < control_seat config → HasSeat config number (standing new)
      → view config words Pause ≡ view config stage.words Pause
      → view config words (State number) ≡ state_word (standing new)
      → ((seat : ℕ) → seat < control_seat config → seat ≢ number → view config words (State seat) ≡ view config stage.words (State seat))
      → (is_checked (standing shaken.control) number ≡ true → is_within (standing new) ≡ false)
      → IsShaken config standing stepped
  seat_keeps number_below seated pause own_state others_stay outside_checked = record {
    words = same_length ∙ shaken.words;
    control = shaken.control;
    there = slice_get-set_other stage.machines number (control_seat config) new (omega (arith, number_below)) ∙ shaken.there;
    seated = seated_then seated;
    pause = pause ∙ shaken.pause;
    states = λ seat machine low at_seat. machine_cases stage.machines number old new machine_there seat machine at_seat (λ any_machine. view config words (State seat) ≡ state_word (standing any_machine))
        (λ same_seat. subst (λ seat. view config words (State seat) ≡ state_word (standing new)) (sym same_seat) own_state)
        (λ other_index at_old. others_stay seat low other_index ∙ shaken.states seat machine low at_old);
    checked = λ seat machine low at_seat seat_checked. machine_cases stage.machines number old new machine_there seat machine at_seat (λ any_machine. is_within (standing any_machine) ≡ false)
        (λ same_seat. outside_checked (subst (λ any_seat. is_checked (standing shaken.control) any_seat ≡ true) same_seat seat_checked))
        (λ other_index at_old. shaken.checked seat machine low at_old seat_checked);
  }

  -- the step of the control
  pub control_keeps : number ≡ control_seat config → HasSeat config number (standing new)
      → view config words Pause ≡ pause_word (standing new)
      → ((seat : ℕ) → seat < control_seat config → view config words (State seat) ≡ view config stage.words (State seat))
      → ((seat : ℕ) (machine : R) → seat < control_seat config → slice_get stage.machines seat ≡ Some machine → is_checked (standing new) seat ≡ true → is_within (standing machine) ≡ false)
      → IsShaken config standing stepped
  control_keeps is_control seated pause states checked = record {
    words = same_length ∙ shaken.words;
    control = new;
    there = subst (λ index. slice_get (slice_set stage.machines number new) index ≡ Some new) is_control (slice_get-set_same stage.machines number old new machine_there);
    seated = seated_then seated;
    pause = pause;
    states = λ seat machine low at_seat. machine_cases stage.machines number old new machine_there seat machine at_seat (λ any_machine. view config words (State seat) ≡ state_word (standing any_machine))
        (λ same_seat. absurd (omega (arith, low, same_seat, is_control)))
        (λ other_index at_old. states seat low ∙ shaken.states seat machine low at_old);
    checked = λ seat machine low at_seat seat_checked. machine_cases stage.machines number old new machine_there seat machine at_seat (λ any_machine. is_within (standing any_machine) ≡ false)
        (λ same_seat. absurd (omega (arith, low, same_seat, is_control)))
        (λ other_index at_old. checked seat machine low at_old seat_checked);
  }
