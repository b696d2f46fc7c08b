-- Rounds of a pause in which nobody moves but the control.
use Rattle.std.proofs.Common.{◌≡◌, ◌<◌, ◌≤◌, inl, inr, ℕ, zero, suc, ◌+◌, ◌-◌, false, [], length, None, refl, sym, ap, ◌∙◌, subst, arith}
use Rattle.std.specs.Prelude.{slice_index, is_some}
use Rattle.std.proofs.lemmas.List.{length-map}
use Rattle.shen_graph.proofs.Options.{none_if_not_some}
use Rattle.heap_words.specs.Ranges.{seat_count}
use Rattle.heap_words.specs.Words.{Pause, word_at}
use Rattle.heap_words.specs.Steps.{Stage}
use Rattle.shen_graph.specs.declared.order.Order.TheVariants.{Nothing}
use Rattle.heap_machines.specs.Awaits.{Awaits}
use Rattle.heap_machines.specs.Shown.{shown, order_of}
use Rattle.heap_machines.specs.declared.stepped.Stepped.TheVariants as stepped
use Rattle.step_core.specs.Actor.{Actor}
use Rattle.step_core.specs.Machines.{order_for}
use Rattle.step_core.specs.Schedule.{Scripts, turn}
use Rattle.shen_core.specs.declared.plain.Plain.{Plain}
use Rattle.shen_core.specs.State.{config_of, words_of, machines_of, machine_at, order_at, seats_of, Shows, IsHalted}
use Rattle.shen_core.specs.Progress.{Jobs, CanRun, HasTurned, agenda}
use Rattle.shen_core.specs.Noting.{NotesTurn, RunsNoted}
use Rattle.shen_core.specs.Halted.{IsAtEnd, AreHalted}
use Rattle.shen_core.proofs.Halted.{halted_turned, halted_notes}
use Rattle.shen_core.proofs.Noting.{runs_none, runs_then, round_idles, round_moves, round_ends, turn_none}
use Rattle.shen_core.proofs.Turns.{some_turn}

-- Who waits and who has ended is known by the pause word and by their machines.
module _ (plain next_plain : Plain) (number : ℕ) (same_config : config_of next_plain ≡ config_of plain) (pause : slice_index (words_of next_plain) (word_at (config_of next_plain) Pause) ≡ slice_index (words_of plain) (word_at (config_of plain) Pause))
    (earlier_machines_same : (k : ℕ) → k < number → machine_at next_plain k ≡ machine_at plain k) where
  one_kept : (machine_number : ℕ) → machine_number < number → IsHalted plain machine_number → IsHalted next_plain machine_number
  one_kept machine_number number_below was_halted = record {
    awaits = subst (λ same_config. Awaits same_config (machine_at next_plain machine_number)) (sym same_config) (subst (Awaits (config_of plain)) (sym (earlier_machines_same machine_number number_below)) was_halted.awaits);
    wanted = λ no_pause. was_halted.wanted (sym pause ∙ no_pause);
  }

  pub halted_kept : (machine_number waiting : ℕ) → machine_number ≤ number → AreHalted plain machine_number waiting → AreHalted next_plain machine_number waiting
  halted_kept zero waiting number_below are_halted = are_halted
  halted_kept (suc machine_number) waiting number_below (inl are_halted) = inl (are_halted.0, one_kept machine_number (omega arith) are_halted.1, halted_kept machine_number (waiting - 1) (omega arith) are_halted.2)
  halted_kept (suc machine_number) waiting number_below (inr are_halted) = inr (λ next_order. ap (λ machine. is_some (order_for next_order machine)) (earlier_machines_same machine_number (omega arith)) ∙ are_halted.0 next_order, halted_kept machine_number waiting (omega arith) are_halted.1)

-- one machine more, which waits
pub halted_more : (plain : Plain) (number waiting later : ℕ) → later ≡ waiting + 1 → IsHalted plain number → AreHalted plain number waiting → AreHalted plain (number + 1) later
halted_more plain number waiting later later_is is_halted are_halted =
    let next_number : suc number ≡ number + 1 = omega arith in
    let waiting_before : waiting ≡ later - 1 = omega arith in
    subst (λ number_there. AreHalted plain number_there later) next_number (inl (omega arith, is_halted, subst (AreHalted plain number) waiting_before are_halted))

-- or has ended
pub ended_more : (plain : Plain) (machine_number waiting later : ℕ) → later ≡ waiting → IsAtEnd plain machine_number → AreHalted plain machine_number waiting → AreHalted plain (machine_number + 1) later
ended_more plain machine_number waiting later later_is machine_ended are_halted =
    let next_number : suc machine_number ≡ machine_number + 1 = omega arith in
    subst (λ number_there. AreHalted plain number_there later) next_number (inr (machine_ended, subst (AreHalted plain machine_number) (sym later_is) are_halted))

module _ (plain : Plain) (jobs : Jobs) (can_run : CanRun plain jobs) where
  abbrev seats : ℕ
  seats = seats_of plain

  within : (index : ℕ) → index < seats → index < length (machines_of plain)
  within index index_below = let count = length-map plain.machines.items shown in let all_machines = plain.all_machines in omega arith

  nothing : (seat : ℕ) → seat < seats → order_at plain seat ≡ Nothing
  nothing seat seat_below = can_run.orders seat Nothing (let count = length-map plain.machines.items order_of in let all_machines = plain.all_machines in omega arith)

  -- a machine that has ended is passed over
  ended_turn : (number : ℕ) → number < seats → IsAtEnd plain number → (scripts : Scripts) (stage : Stage Actor) → Shows plain stage → turn scripts stage number ≡ None
  ended_turn number number_below machine_ended scripts stage shows = none_if_not_some (turn scripts stage number) (some_turn plain number false (within number number_below) machine_ended scripts stage shows)

  ended_turned : (number : ℕ) → number < seats → IsAtEnd plain number → HasTurned plain jobs number plain jobs stepped.Idle
  ended_turned number number_below machine_ended scripts stage shows tells = record { idle = ended_turn number number_below machine_ended scripts stage shows; shows = shows; tells = tells }

  ended_notes : (number : ℕ) → number < seats → IsAtEnd plain number → NotesTurn plain jobs number plain
  ended_notes number number_below machine_ended = turn_none plain plain jobs number Nothing (λ scripts stage shows tells. ended_turn number number_below machine_ended scripts stage shows) refl

  -- the machines up to a number have their turns, which change nothing
  pub passes : (k waiting left : ℕ) → k ≤ seats → waiting ≤ left → AreHalted plain k waiting → RunsNoted plain jobs (agenda [] 0) left plain jobs (agenda [] k) (left - waiting)
  passes zero waiting left seat_bound enough are_halted =
      let same_count : left ≡ left - waiting = omega arith in
      subst (λ number. RunsNoted plain jobs (agenda [] 0) left plain jobs (agenda [] 0) number) same_count (runs_none plain jobs (agenda [] 0) left)
  passes (suc seat) waiting left seat_bound enough (inl halted_so) =
      let seat_below : seat < seats = omega arith in
      let some_waiting : 0 < waiting = halted_so.0 in
      let next_seat : seat + 1 ≡ suc seat = omega arith in
      let same_count : left - (waiting - 1) - 1 ≡ left - waiting = omega arith in
      let earlier_passes = passes seat (waiting - 1) left (omega arith) (omega arith) halted_so.2 in
      let steps_left : 0 < left - (waiting - 1) = omega arith in
      let one_turn = round_moves plain plain jobs jobs seat stepped.Again (left - (waiting - 1)) seat_below (halted_notes plain jobs seat (within seat seat_below) (nothing seat seat_below) halted_so.1) (halted_turned plain jobs seat (within seat seat_below) (nothing seat seat_below) halted_so.1) (λ stepped_is. absurd cc) steps_left in
      subst (λ number. RunsNoted plain jobs (agenda [] 0) left plain jobs (agenda [] number) (left - waiting)) next_seat
      (subst (λ number. RunsNoted plain jobs (agenda [] 0) left plain jobs (agenda [] (seat + 1)) number) same_count
      (runs_then plain plain plain jobs jobs jobs (agenda [] 0) (agenda [] seat) (agenda [] (seat + 1)) left (left - (waiting - 1)) (left - (waiting - 1) - 1) refl earlier_passes one_turn))
  passes (suc seat) waiting left seat_bound enough (inr halted_so) =
      let seat_below : seat < seats = omega arith in
      let next_seat : seat + 1 ≡ suc seat = omega arith in
      let earlier_passes = passes seat waiting left (omega arith) enough halted_so.1 in
      let one_turn = round_idles plain plain jobs jobs seat stepped.Idle (left - waiting) seat_below (ended_notes seat seat_below halted_so.0) (ended_turned seat seat_below halted_so.0) refl in
      subst (λ number. RunsNoted plain jobs (agenda [] 0) left plain jobs (agenda [] number) (left - waiting)) next_seat
      (runs_then plain plain plain jobs jobs jobs (agenda [] 0) (agenda [] seat) (agenda [] (seat + 1)) left (left - waiting) (left - waiting) refl earlier_passes one_turn)

  -- and then the control has its own: a whole round
  pub pause_round : (next_plain : Plain) (control waiting left : ℕ) → control + 1 ≡ seats → waiting < left → AreHalted plain control waiting → config_of next_plain ≡ config_of plain → NotesTurn plain jobs control next_plain → HasTurned plain jobs control next_plain jobs stepped.More
      → RunsNoted plain jobs (agenda [] 0) left next_plain jobs (agenda [] 0) (left - (waiting + 1))
  pause_round next_plain control waiting left control_last enough are_halted same_config notes turned =
      let control_below : control < seats = omega arith in
      let control_bound : control ≤ seats = omega arith in
      let few_waiting : waiting ≤ left = omega arith in
      let steps_left : 0 < left - waiting = omega arith in
      let same_count : left - waiting - 1 ≡ left - (waiting + 1) = omega arith in
      let of_q : control + 1 ≡ seat_count (config_of next_plain).mutators (config_of next_plain).helpers = control_last ∙ sym (ap (λ asked_config. seat_count asked_config.mutators asked_config.helpers) same_config) in
      let control_passes = passes control waiting left control_bound few_waiting are_halted in
      let one_turn = round_moves plain next_plain jobs jobs control stepped.More (left - waiting) control_below notes turned (λ stepped_is. absurd cc) steps_left in
      let ends : RunsNoted next_plain jobs (agenda [] (control + 1)) (left - waiting - 1) next_plain jobs (agenda [] 0) (left - waiting - 1) =
      subst (λ number. RunsNoted next_plain jobs (agenda [] number) (left - waiting - 1) next_plain jobs (agenda [] 0) (left - waiting - 1)) (sym of_q) (round_ends next_plain jobs (left - waiting - 1)) in
      subst (λ number. RunsNoted plain jobs (agenda [] 0) left next_plain jobs (agenda [] 0) number) same_count
      (runs_then plain next_plain next_plain jobs jobs jobs (agenda [] 0) (agenda [] (control + 1)) (agenda [] 0) left (left - waiting - 1) (left - waiting - 1) same_config
      (runs_then plain plain next_plain jobs jobs jobs (agenda [] 0) (agenda [] control) (agenda [] (control + 1)) left (left - waiting) (left - waiting - 1) refl control_passes one_turn) ends)
