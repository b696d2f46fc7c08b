-- The handshake over any kind of machine: each event that obeys keeps it, so each run does.
use Rattle.std.proofs.Common.{◌≡◌, ◌≢◌, ℕ, ◌+◌, ◌<◌, ◌≤◌, Bool, List, [], ◌∷◌, true, false, Some, refl, sym, ap, ◌∙◌, subst, arith, inl, inr}
use Rattle.std.specs.Prelude.{slice_get, slice_set, slice_index, nat_eq, nat_lt, ◌⊎◌, if◌then◌else◌}
use Rattle.std.proofs.lemmas.Bool.{lt-ltb, ltb-true}
use Rattle.std.proofs.lemmas.Bool.Decides.{nat_tests}
use Rattle.std.proofs.lemmas.List.{length-set}
use Rattle.heap_words.specs.declared.config.Config.{Config}
use Rattle.heap_words.specs.declared.access.Access.{Access}
use Rattle.heap_words.specs.Access.{table_index}
use Rattle.heap_words.specs.Words.{Pause, State, view}
use Rattle.heap_words.proofs.Stores.{view_word}
use Rattle.heap_words.specs.Touch.{touch, stores, placed}
use Rattle.heap_words.specs.Steps.{MachineKind, Stage, Event, act, go, accessed}
use Rattle.heap_words.proofs.Runs.{go-none, go-first}
use Rattle.heap_words.proofs.Laws.{act_cases}
use Rattle.handshake.specs.declared.stop_spot.StopSpot.TheVariants.{Check, Stopped}
use Rattle.handshake.specs.StopRows.{after_seat}
use Rattle.handshake.specs.Standing.{Standing, outside, looks, backs, inside, leaves, idle, stops, checks, works, goes, state_word, pause_word, is_within, is_pausing, is_free, is_checked, HasSeat, control_seat, stop_standing}
use Rattle.handshake.specs.Obeys.{is_load, IsHarmless, Enters, StaysOut, Looks, GoesOut, GoesOn, Stops, Checks, EndsPause, Obeys}
use Rattle.handshake.specs.Shaken.{IsShaken, EventObeys, EachObeys}
use Rattle.handshake.proofs.PauseWords.{KeepsWords, elsewhere_keeps, load_keeps, pause_stored, pause_stored_states, state_stored, state_stored_pause, state_stored_other}
use Rattle.handshake.proofs.StepsKeep.{seat_keeps, control_keeps}

-- a machine in the heap has a state word of 1
within_state : (standing : Standing) → is_within standing ≡ true → state_word standing ≡ 1
within_state inside standing_within = refl
within_state leaves standing_within = refl
within_state _ standing_within = absurd (cc (standing_within))

-- and is one of a mutator or helper
within_seated : (config : Config) (seat : ℕ) (standing : Standing) → seat < control_seat config → is_within standing ≡ true → HasSeat config seat standing
within_seated config seat inside seat_below standing_within = seat_below
within_seated config seat leaves seat_below standing_within = seat_below
within_seated config seat _ seat_below standing_within = absurd (cc (standing_within))

-- where no pause is wanted, no seat is checked, and the pause word is 0
free_pause : (standing : Standing) → is_free standing ≡ true → pause_word standing ≡ 0
free_pause idle standing_free = refl
free_pause stops standing_free = refl
free_pause _ standing_free = absurd (cc (standing_free))

free_unchecked : (standing : Standing) (seat : ℕ) → is_free standing ≡ true → is_checked standing seat ≡ false
free_unchecked idle seat standing_free = refl
free_unchecked stops seat standing_free = refl
free_unchecked _ seat standing_free = absurd (cc (standing_free))

free_seated : (config : Config) (seat : ℕ) (standing : Standing) → seat ≡ control_seat config → is_free standing ≡ true → HasSeat config seat standing
free_seated config seat idle control_number standing_free = control_number
free_seated config seat stops control_number standing_free = control_number
free_seated config seat _ control_number standing_free = absurd (cc (standing_free))

pausing_pause : (standing : Standing) → is_pausing standing ≡ true → pause_word standing ≡ 1
pausing_pause works in_pause = refl
pausing_pause goes in_pause = refl
pausing_pause _ in_pause = absurd (cc (in_pause))

pausing_seated : (config : Config) (seat : ℕ) (standing : Standing) → seat ≡ control_seat config → is_pausing standing ≡ true → HasSeat config seat standing
pausing_seated config seat works control_number in_pause = control_number
pausing_seated config seat goes control_number in_pause = control_number
pausing_seated config seat _ control_number in_pause = absurd (cc (in_pause))

-- in a pause all seats are checked
pub pausing_checked : (standing : Standing) (seat : ℕ) → is_pausing standing ≡ true → is_checked standing seat ≡ true
pausing_checked works seat in_pause = refl
pausing_checked goes seat in_pause = refl
pausing_checked _ seat in_pause = absurd (cc (in_pause))

-- a seat is checked only where the pause word is 1
checked_pause : (standing : Standing) (seat : ℕ) → is_checked standing seat ≡ true → pause_word standing ≡ 1
checked_pause (checks checked_seat) seat seat_checked = refl
checked_pause works seat seat_checked = refl
checked_pause goes seat seat_checked = refl
checked_pause _ seat seat_checked = absurd (cc (seat_checked))

-- whose state word is 0 is not in the heap
zero_without : (standing : Standing) → state_word standing ≡ 0 → is_within standing ≡ false
zero_without inside zero_word = absurd (cc (zero_word))
zero_without leaves zero_word = absurd (cc (zero_word))
zero_without _ zero_word = refl

-- there is a seat that is not the control's
some_seat : (config : Config) → 0 < control_seat config
some_seat config = omega (arith, config.in_range.least_mutators)

-- no seat is below the first
nothing_below : (seat : ℕ) → nat_lt seat 0 ≡ true → ⊥
nothing_below seat below_zero = grind (arith, nat_tests)

-- where the control stands after a seat
after_seated : (config : Config) (number seat : ℕ) → number ≡ control_seat config → HasSeat config number (stop_standing (after_seat config seat))
after_seated config number seat is_control = by_test (nat_lt (seat + 1) (control_seat config)) refl
  where
    by_test : (holds : Bool) → nat_lt (seat + 1) (control_seat config) ≡ holds → HasSeat config number (stop_standing (if holds then Check (seat + 1) else Stopped))
    by_test true seat_test = (is_control, ltb-true _ _ seat_test)
    by_test false seat_test = is_control

after_pause : (config : Config) (seat : ℕ) → pause_word (stop_standing (after_seat config seat)) ≡ 1
after_pause config seat = by_test (nat_lt (seat + 1) (control_seat config))
  where
    by_test : (holds : Bool) → pause_word (stop_standing (if holds then Check (seat + 1) else Stopped)) ≡ 1
    by_test true = refl
    by_test false = refl

-- it has checked no seat above
after_checked : (config : Config) (seat checked_seat : ℕ) → checked_seat < control_seat config → is_checked (stop_standing (after_seat config seat)) checked_seat ≡ true → checked_seat < seat + 1
after_checked config seat checked_seat checked_below = by_test (nat_lt (seat + 1) (control_seat config)) refl
  where
    by_test : (holds : Bool) → nat_lt (seat + 1) (control_seat config) ≡ holds → is_checked (stop_standing (if holds then Check (seat + 1) else Stopped)) checked_seat ≡ true → checked_seat < seat + 1
    by_test true seat_test checked = ltb-true _ _ checked
    by_test false seat_test checked = let all_checked : control_seat config ≤ seat + 1 = grind (arith, nat_tests) in omega (arith, checked_below, all_checked)

module _ {R : Type 0} (config : Config) (standing : R → Standing) (stage : Stage R) (shaken : IsShaken config standing stage) (number : ℕ) (old new : R) (machine_there : slice_get stage.machines number ≡ Some old) where
  -- the stage after an access
  abbrev after : Access → Stage R
  after access = record { words = accessed access stage.words; machines = slice_set stage.machines number new }

  -- the word that the access finds
  abbrev found : Access → ℕ
  found access = slice_index stage.words (table_index access)

  -- a mutator or helper that makes no store into its state word
  quiet_keeps : (access : Access) → number < control_seat config → KeepsWords config stage.words (accessed access stage.words) → HasSeat config number (standing new)
      → state_word (standing old) ≡ state_word (standing new)
      → (is_checked (standing shaken.control) number ≡ true → is_within (standing new) ≡ false)
      → IsShaken config standing (after access)
  quiet_keeps access number_below words_kept seated same_state outside_checked =
      seat_keeps config standing stage shaken number old new machine_there (accessed access stage.words) words_kept.long number_below seated words_kept.pause
      (words_kept.states number number_below ∙ shaken.states number old number_below machine_there ∙ same_state)
      (λ seat low apart. words_kept.states seat low) outside_checked

  -- a mutator or helper that stores into its state word, and is not in the heap then
  stores_keeps : (access : Access) (value : ℕ) → access ≡ placed config (touch (State number) (stores value)) → number < control_seat config → HasSeat config number (standing new)
      → value ≡ state_word (standing new) → is_within (standing new) ≡ false → IsShaken config standing (after access)
  stores_keeps access value stores_state number_below seated stored_state outside_then = subst (λ any_access. IsShaken config standing (after any_access)) (sym stores_state)
      (seat_keeps config standing stage shaken number old new machine_there (accessed (placed config (touch (State number) (stores value))) stage.words) (length-set stage.words _ _) number_below seated
      (state_stored_pause config stage.words value number shaken.words number_below)
      (state_stored config stage.words value number shaken.words number_below ∙ stored_state)
      (λ seat low apart. state_stored_other config stage.words value number seat shaken.words number_below apart)
      (λ stores_state. outside_then))

  -- the machine with the control's number is the control
  old_control : number ≡ control_seat config → shaken.control ≡ old
  old_control is_control = let machine_at_control = subst (λ any_number. slice_get stage.machines any_number ≡ Some old) is_control machine_there in cc (machine_at_control, shaken.there)

  -- the control uses other words
  control_quiet : (access : Access) → number ≡ control_seat config → KeepsWords config stage.words (accessed access stage.words) → HasSeat config number (standing new)
      → pause_word (standing old) ≡ pause_word (standing new)
      → ((seat : ℕ) (machine : R) → seat < control_seat config → slice_get stage.machines seat ≡ Some machine → is_checked (standing new) seat ≡ true → is_within (standing machine) ≡ false)
      → IsShaken config standing (after access)
  control_quiet access is_control words_kept seated same_pause checked =
      control_keeps config standing stage shaken number old new machine_there (accessed access stage.words) words_kept.long is_control seated
      (words_kept.pause ∙ shaken.pause ∙ ap (λ machine. pause_word (standing machine)) (old_control is_control) ∙ same_pause)
      words_kept.states checked

  -- the control stores into the pause word
  control_stores : (access : Access) (value : ℕ) → access ≡ placed config (touch Pause (stores value)) → number ≡ control_seat config → HasSeat config number (standing new)
      → value ≡ pause_word (standing new)
      → ((seat : ℕ) (machine : R) → seat < control_seat config → slice_get stage.machines seat ≡ Some machine → is_checked (standing new) seat ≡ true → is_within (standing machine) ≡ false)
      → IsShaken config standing (after access)
  control_stores access value stores_pause is_control seated stored_pause checked = subst (λ any_access. IsShaken config standing (after any_access)) (sym stores_pause)
      (control_keeps config standing stage shaken number old new machine_there (accessed (placed config (touch Pause (stores value))) stage.words) (length-set stage.words _ _) is_control seated
      (pause_stored config stage.words value shaken.words ∙ stored_pause)
      (λ seat low. pause_stored_states config stage.words value seat shaken.words)
      checked)

  -- whoever is in the heap is so in a seat that is not checked
  within_unchecked : number < control_seat config → is_within (standing old) ≡ true → is_checked (standing shaken.control) number ≡ true → ⊥
  within_unchecked number_below old_within number_checked = absurd (cc (old_within, shaken.checked number old number_below machine_there number_checked))

  -- from outside
  outside_keeps : (access : Access) (standing_next : ℕ → Standing) → number < control_seat config → state_word (standing old) ≡ 0
      → Enters config number access standing_next ⊎ StaysOut config access standing_next → standing new ≡ standing_next (found access) → IsShaken config standing (after access)
  outside_keeps access standing_next number_below zero_state (inl enters) standing_found =
      let looking : standing new ≡ looks = standing_found ∙ enters.next_is _ in
      stores_keeps access 1 enters.access_is number_below (subst (HasSeat config number) (sym looking) number_below) (sym (ap state_word looking)) (ap is_within looking)
  outside_keeps access standing_next number_below zero_state (inr stays) standing_found =
      let staying : standing new ≡ outside = standing_found ∙ stays.next_is _ in
      quiet_keeps access number_below (keeps stays.harmless) (subst (HasSeat config number) (sym staying) number_below) (zero_state ∙ sym (ap state_word staying)) (λ checked. ap is_within staying)
    where
      keeps : IsHarmless config access → KeepsWords config stage.words (accessed access stage.words)
      keeps (inl reads) = load_keeps config stage.words access reads
      keeps (inr other_word) = elsewhere_keeps config stage.words access other_word.0

  -- a look at the pause word
  looks_keeps : (access : Access) (standing_next : ℕ → Standing) → number < control_seat config → state_word (standing old) ≡ 1
      → Looks config access standing_next → standing new ≡ standing_next (found access) → IsShaken config standing (after access)
  looks_keeps access standing_next number_below in_heap look standing_found = by_word (nat_eq (found access) 0) refl
    where
      keeps : KeepsWords config stage.words (accessed access stage.words)
      keeps = load_keeps config stage.words access (ap is_load look.access_is)

      found_is : found access ≡ pause_word (standing shaken.control)
      found_is = ap found look.access_is ∙ shaken.pause

      by_word : (holds : Bool) → nat_eq (found access) 0 ≡ holds → IsShaken config standing (after access)
      by_word true zero_is =
          let zero_found : found access ≡ 0 = grind (arith, nat_tests) in
          let entered : standing new ≡ inside = standing_found ∙ ap standing_next zero_found ∙ look.enters in
          quiet_keeps access number_below keeps (subst (HasSeat config number) (sym entered) number_below) (in_heap ∙ sym (ap state_word entered))
          (λ checked. absurd (omega (arith, zero_found, found_is, checked_pause (standing shaken.control) number checked)))
      by_word false zero_not =
          let some_found : found access ≢ 0 = grind (arith, nat_tests) in
          let backs_off : standing new ≡ backs = standing_found ∙ look.backs_off _ some_found in
          quiet_keeps access number_below keeps (subst (HasSeat config number) (sym backs_off) number_below) (in_heap ∙ sym (ap state_word backs_off)) (λ checked. ap is_within backs_off)

  -- a step out
  goes_out_keeps : (access : Access) (standing_next : ℕ → Standing) → number < control_seat config
      → GoesOut config number access standing_next → standing new ≡ standing_next (found access) → IsShaken config standing (after access)
  goes_out_keeps access standing_next number_below goes_out standing_found =
      let outside_then : standing new ≡ outside = standing_found ∙ goes_out.next_is _ in
      stores_keeps access 0 goes_out.access_is number_below (subst (HasSeat config number) (sym outside_then) number_below) (sym (ap state_word outside_then)) (ap is_within outside_then)

  -- a step in the heap
  within_keeps : (access : Access) (standing_next : ℕ → Standing) → number < control_seat config → is_within (standing old) ≡ true
      → GoesOn config access standing_next is_within → standing new ≡ standing_next (found access) → IsShaken config standing (after access)
  within_keeps access standing_next number_below old_within goes_on standing_found =
      let still_within : is_within (standing new) ≡ true = ap is_within standing_found ∙ goes_on.goes_on _ in
      quiet_keeps access number_below (elsewhere_keeps config stage.words access goes_on.elsewhere) (within_seated config number (standing new) number_below still_within)
      (within_state (standing old) old_within ∙ sym (within_state (standing new) still_within))
      (λ checked. absurd (within_unchecked number_below old_within checked))

  -- the control where no pause is wanted
  idle_keeps : (access : Access) (standing_next : ℕ → Standing) → number ≡ control_seat config → is_free (standing old) ≡ true
      → GoesOn config access standing_next is_free → standing new ≡ standing_next (found access) → IsShaken config standing (after access)
  idle_keeps access standing_next is_control old_free goes_on standing_found =
      let still_free : is_free (standing new) ≡ true = ap is_free standing_found ∙ goes_on.goes_on _ in
      control_quiet access is_control (elsewhere_keeps config stage.words access goes_on.elsewhere) (free_seated config number (standing new) is_control still_free)
      (free_pause (standing old) old_free ∙ sym (free_pause (standing new) still_free))
      (λ seat machine low machine_at checked. absurd (cc (checked, free_unchecked (standing new) seat still_free)))

  -- the control says that it wants a pause
  stops_keeps : (access : Access) (standing_next : ℕ → Standing) → number ≡ control_seat config
      → Stops config access standing_next → standing new ≡ standing_next (found access) → IsShaken config standing (after access)
  stops_keeps access standing_next is_control stop standing_found =
      let checking : standing new ≡ checks 0 = standing_found ∙ stop.next_is _ in
      control_stores access 1 stop.access_is is_control (subst (HasSeat config number) (sym checking) (is_control, some_seat config)) (sym (ap pause_word checking))
      (λ seat machine low machine_at checked. absurd (nothing_below seat (sym (ap (λ any_standing. is_checked any_standing seat) checking) ∙ checked)))

  -- the control checks a seat
  checks_keeps : (access : Access) (standing_next : ℕ → Standing) (seat : ℕ) → number ≡ control_seat config → seat < control_seat config → standing old ≡ checks seat
      → Checks config seat access standing_next → standing new ≡ standing_next (found access) → IsShaken config standing (after access)
  checks_keeps access standing_next seat is_control seat_low old_is check standing_found = by_word (nat_eq (found access) 0) refl
    where
      keeps : KeepsWords config stage.words (accessed access stage.words)
      keeps = load_keeps config stage.words access (ap is_load check.access_is)

      found_is : found access ≡ view config stage.words (State seat)
      found_is = ap found check.access_is ∙ sym (view_word config stage.words (State seat) seat_low)

      -- a seat below the one that is checked
      before : (lower_seat : ℕ) (machine : R) → lower_seat < control_seat config → slice_get stage.machines lower_seat ≡ Some machine → lower_seat < seat → is_within (standing machine) ≡ false
      before lower_seat machine lower_below machine_at lower_before = shaken.checked lower_seat machine lower_below machine_at (ap (λ any_machine. is_checked (standing any_machine) lower_seat) (old_control is_control) ∙ ap (λ any_standing. is_checked any_standing lower_seat) old_is ∙ lt-ltb lower_seat seat lower_before)

      -- the seat that is checked, where its word is 0
      this : found access ≡ 0 → (machine : R) → slice_get stage.machines seat ≡ Some machine → is_within (standing machine) ≡ false
      this zero_found machine machine_at = zero_without (standing machine) (sym (shaken.states seat machine seat_low machine_at) ∙ sym found_is ∙ zero_found)

      by_word : (holds : Bool) → nat_eq (found access) 0 ≡ holds → IsShaken config standing (after access)
      by_word true zero_is =
          let nothing_found : found access ≡ 0 = grind (arith, nat_tests) in
          let stop_next : standing new ≡ stop_standing (after_seat config seat) = standing_found ∙ ap standing_next nothing_found ∙ check.goes_on in
          control_quiet access is_control keeps (subst (HasSeat config number) (sym stop_next) (after_seated config number seat is_control))
          (ap pause_word old_is ∙ sym (after_pause config seat) ∙ sym (ap pause_word stop_next))
          (λ given_seat found_machine seat_below machine_there checked. by_seat given_seat found_machine seat_below machine_there (after_checked config seat given_seat seat_below (sym (ap (λ any_standing. is_checked any_standing given_seat) stop_next) ∙ checked)) (nat_eq given_seat seat) refl)
        where
          by_seat : (checked_seat : ℕ) (machine : R) → checked_seat < control_seat config → slice_get stage.machines checked_seat ≡ Some machine → checked_seat < seat + 1 → (holds : Bool) → nat_eq checked_seat seat ≡ holds → is_within (standing machine) ≡ false
          by_seat checked_seat machine checked_below machine_at checked_up_to true seat_test =
              let same_seat : checked_seat ≡ seat = grind (arith, nat_tests) in
              this (let zero_found : found access ≡ 0 = grind (arith, nat_tests) in zero_found) machine (subst (λ any_seat. slice_get stage.machines any_seat ≡ Some machine) same_seat machine_at)
          by_seat checked_seat machine checked_below machine_at checked_up_to false other_seat =
              let lower : checked_seat < seat = grind (arith, nat_tests) in before checked_seat machine checked_below machine_at lower
      by_word false zero_not =
          let some_found : found access ≢ 0 = grind (arith, nat_tests) in
          let waiting : standing new ≡ checks seat = standing_found ∙ check.waits _ some_found in
          control_quiet access is_control keeps (subst (HasSeat config number) (sym waiting) (is_control, seat_low))
          (ap pause_word old_is ∙ sym (ap pause_word waiting))
          (λ given_seat found_machine seat_below machine_there checked. before given_seat found_machine seat_below machine_there (ltb-true given_seat seat (sym (ap (λ any_standing. is_checked any_standing given_seat) waiting) ∙ checked)))

  -- the control works in a pause
  works_keeps : (access : Access) (standing_next : ℕ → Standing) → number ≡ control_seat config → is_pausing (standing old) ≡ true
      → GoesOn config access standing_next is_pausing → standing new ≡ standing_next (found access) → IsShaken config standing (after access)
  works_keeps access standing_next is_control pausing goes_on standing_found =
      let still_pausing : is_pausing (standing new) ≡ true = ap is_pausing standing_found ∙ goes_on.goes_on _ in
      control_quiet access is_control (elsewhere_keeps config stage.words access goes_on.elsewhere) (pausing_seated config number (standing new) is_control still_pausing)
      (pausing_pause (standing old) pausing ∙ sym (pausing_pause (standing new) still_pausing))
      (λ seat machine low machine_at checked. shaken.checked seat machine low machine_at (ap (λ any_machine. is_checked (standing any_machine) seat) (old_control is_control) ∙ pausing_checked (standing old) seat pausing))

  -- the control ends the pause
  goes_keeps : (access : Access) (standing_next : ℕ → Standing) → number ≡ control_seat config
      → EndsPause config access standing_next → standing new ≡ standing_next (found access) → IsShaken config standing (after access)
  goes_keeps access standing_next is_control ends standing_found =
      let idle_then : standing new ≡ idle = standing_found ∙ ends.next_is _ in
      control_stores access 0 ends.access_is is_control (subst (HasSeat config number) (sym idle_then) is_control) (sym (ap pause_word idle_then))
      (λ seat machine low machine_at checked. absurd (cc (checked, ap (λ any_standing. is_checked any_standing seat) idle_then)))

  -- the step of a machine that stands so, if it obeys
  obeys_keeps : (access : Access) (standing_next : ℕ → Standing) (old_standing : Standing) → standing old ≡ old_standing → HasSeat config number old_standing → Obeys config number old_standing access standing_next
      → standing new ≡ standing_next (found access) → IsShaken config standing (after access)
  obeys_keeps access standing_next outside old_is seated obeys standing_found = outside_keeps access standing_next seated (ap state_word old_is) obeys standing_found
  obeys_keeps access standing_next looks old_is seated obeys standing_found = looks_keeps access standing_next seated (ap state_word old_is) obeys standing_found
  obeys_keeps access standing_next backs old_is seated obeys standing_found = goes_out_keeps access standing_next seated obeys standing_found
  obeys_keeps access standing_next inside old_is seated obeys standing_found = within_keeps access standing_next seated (ap is_within old_is) obeys standing_found
  obeys_keeps access standing_next leaves old_is seated obeys standing_found = goes_out_keeps access standing_next seated obeys standing_found
  obeys_keeps access standing_next idle old_is seated obeys standing_found = idle_keeps access standing_next seated (ap is_free old_is) obeys standing_found
  obeys_keeps access standing_next stops old_is seated obeys standing_found = stops_keeps access standing_next seated obeys standing_found
  obeys_keeps access standing_next (checks seat) old_is seated obeys standing_found = checks_keeps access standing_next seat seated.0 seated.1 old_is obeys standing_found
  obeys_keeps access standing_next works old_is seated obeys standing_found = works_keeps access standing_next seated (ap is_pausing old_is) obeys standing_found
  obeys_keeps access standing_next goes old_is seated obeys standing_found = goes_keeps access standing_next seated obeys standing_found

  -- a step that obeys keeps the handshake
  pub step_keeps : (access : Access) (standing_next : ℕ → Standing) → Obeys config number (standing old) access standing_next → standing new ≡ standing_next (found access) → IsShaken config standing (after access)
  step_keeps access standing_next obeys standing_found = obeys_keeps access standing_next (standing old) refl (shaken.seated number old machine_there) obeys standing_found

module _ {R O : Type 0} (config : Config) (kind : MachineKind R O) (standing : R → Standing) where
  -- an event that obeys keeps the handshake
  pub shaken_step : (stage : Stage R) (event : Event O) → IsShaken config standing stage → EventObeys config kind standing stage event → IsShaken config standing (act kind stage event)
  shaken_step stage event shaken obeys = act_cases kind (λ stage. IsShaken config standing stage) stage event shaken
      (λ machine machine_there takes. step_keeps config standing stage shaken event.number machine (kind.took machine event.order (slice_index stage.words (table_index (kind.plan machine event.order)))) machine_there (kind.plan machine event.order)
      (λ got. standing (kind.took machine event.order got))
      (obeys machine (record { here = machine_there; takes = takes })) refl)

  -- so does a run of events that obey
  pub shaken_run : (stage : Stage R) (events : List (Event O)) → IsShaken config standing stage → EachObeys config kind standing stage events → IsShaken config standing (go kind stage events)
  shaken_run stage [] shaken obeys = subst (λ stage. IsShaken config standing stage) (sym (go-none kind stage)) shaken
  shaken_run stage (event ∷ rest) shaken obeys = subst (λ stage. IsShaken config standing stage) (sym (go-first kind stage event rest))
      (shaken_run (act kind stage event) rest (shaken_step stage event shaken obeys.0) obeys.1)
