-- A replay that has come to its end goes no further, however many steps it may make.
use Rattle.std.proofs.Common.{◌≡◌, ◌⊎◌, inl, inr, ℕ, zero, suc, ◌<◌, ◌≤◌, Bool, true, false, List, [], ◌∷◌, ◌++◌, length, Option, Some, None, refl, sym, ap, ◌∙◌, subst, arith}
use Rattle.std.specs.Prelude.{nat_le, if◌then◌else◌}
use Rattle.std.proofs.lemmas.Bool.{cases_lt}
use Rattle.std.proofs.lemmas.Option.{slice_get_past}
use Rattle.heap_words.specs.declared.config.Config.{Config}
use Rattle.heap_words.specs.declared.schedule.Item.{Item}
use Rattle.heap_words.specs.Ranges.{seat_count}
use Rattle.heap_words.specs.Steps.{Stage, Event, act, go}
use Rattle.heap_words.proofs.Runs.{go-none, go-first}
use Rattle.shen_graph.specs.declared.order.Order.{Order}
use Rattle.heap_machines.specs.Pause.{pause_image}
use Rattle.heap_machines.proofs.Pauses.{heap_pauses}
use Rattle.step_core.specs.Actor.{Actor}
use Rattle.step_core.specs.Begins.{past}
use Rattle.step_core.specs.Machines.{kind}
use Rattle.step_core.specs.Opening.{opening}
use Rattle.step_core.specs.Schedule.{Scripts, Task, steps, until, replies, control, turn, turn_of, is_at_place, given, waits_then, control_after, ScheduledEvent, moves, move_of, or_else, first_turn, numbers_from, round_of, after_move, Agenda, Next, next, next_by, and_then, scheduled, agenda_of}
use Rattle.step_core.specs.Settled.{control_number}
use Rattle.step_core.proofs.Theorem.EveryList.{every_list}
use Rattle.shen_core.specs.Progress.{AreIdle}
use Rattle.shen_core.proofs.Rounds.{scheduled_none}
use Rattle.trace_text.specs.Answer.{IsAnswerText}
use Rattle.trace_runs.specs.Replayed.{events_of, IsWhole, IsReplayed}

-- no number has a turn
abbrev IsStill : Scripts → Stage Actor → Type 0
IsStill scripts stage = (number : ℕ) → turn scripts stage number ≡ None

-- where all machines are idle there is none, since no other number has a machine
still : (config : Config) (scripts : Scripts) (stage : Stage Actor) → length stage.machines ≡ seat_count config.mutators config.helpers → AreIdle config scripts stage → IsStill scripts stage
still config scripts stage count idle number = by_seat (cases_lt number (seat_count config.mutators config.helpers))
  where
    by_seat : (number < seat_count config.mutators config.helpers) ⊎ (seat_count config.mutators config.helpers ≤ number) → turn scripts stage number ≡ None
    by_seat (inl number_below) = idle number number_below
    by_seat (inr number_beyond) = ap (turn_of scripts number) (slice_get_past stage.machines number (omega (arith, count, number_beyond)))

-- then no task has an event, and neither has a round
none_move : (config : Config) (scripts : Scripts) (stage : Stage Actor) (task : Task) → IsStill scripts stage → move_of config scripts stage task ≡ None
none_move config scripts stage (steps number zero) stage_still = refl
none_move config scripts stage (steps number (suc count)) stage_still = ap (λ turn_found. moves turn_found (steps number count ∷ [])) (stage_still number)
none_move config scripts stage (until number place) stage_still = by_test (is_at_place scripts stage number place)
  where
    by_test : (test : Bool) → (if test then None else moves (turn scripts stage number) (until number place ∷ [])) ≡ None
    by_test true = refl
    by_test false = ap (λ turn_found. moves turn_found (until number place ∷ [])) (stage_still number)
none_move config scripts stage (replies number count) stage_still = by_test (nat_le count (given stage number))
  where
    by_test : (test : Bool) → (if test then None else moves (turn scripts stage number) (control_after (waits_then config stage (turn scripts stage number)) ++ replies number count ∷ [])) ≡ None
    by_test true = refl
    by_test false = ap (λ turn_found. moves turn_found (control_after (waits_then config stage turn_found) ++ replies number count ∷ [])) (stage_still number)
none_move config scripts stage control stage_still = ap (λ turn_found. moves turn_found []) (stage_still (control_number config))

none_first : (scripts : Scripts) (stage : Stage Actor) (numbers : List ℕ) → IsStill scripts stage → first_turn scripts stage numbers ≡ None
none_first scripts stage [] stage_still = refl
none_first scripts stage (number ∷ numbers) stage_still = ap (λ turn_found. or_else turn_found (first_turn scripts stage numbers)) (stage_still number) ∙ none_first scripts stage numbers stage_still

none_next : (config : Config) (scripts : Scripts) (stage : Stage Actor) (tasks : List Task) (from : ℕ) → IsStill scripts stage → next_by config scripts stage tasks from ≡ None
none_next config scripts stage [] from stage_still = ap round_of (none_first scripts stage (numbers_from config from) stage_still)
none_next config scripts stage (task ∷ tasks) from stage_still = ap (λ move_found. after_move move_found tasks from (next_by config scripts stage tasks from)) (none_move config scripts stage task stage_still) ∙ none_next config scripts stage tasks from stage_still

-- more steps than lead to such a stage are the same events
enough : (config : Config) (scripts : Scripts) (few many : ℕ) (todo : Agenda) (stage : Stage Actor) → few ≤ many → IsStill scripts (go (kind pause_image config) stage (scheduled pause_image config scripts few todo stage))
    → scheduled pause_image config scripts many todo stage ≡ scheduled pause_image config scripts few todo stage
unfolding scheduled
enough config scripts zero many todo stage fewer stage_still = scheduled_none config scripts stage todo many (none_next config scripts stage todo.tasks todo.from (subst (IsStill scripts) (go-none (kind pause_image config) stage) stage_still))
enough config scripts (suc few) zero todo stage fewer stage_still = absurd (omega (arith, fewer))
enough config scripts (suc few) (suc many) todo stage fewer stage_still = by_next (next config scripts stage todo) (λ later other_stage. enough config scripts few many later other_stage (omega (arith, fewer))) stage_still
  where
    by_next : (found : Option Next)
        → ((later : Agenda) (later_stage : Stage Actor) → IsStill scripts (go (kind pause_image config) later_stage (scheduled pause_image config scripts few later later_stage)) → scheduled pause_image config scripts many later later_stage ≡ scheduled pause_image config scripts few later later_stage)
        → IsStill scripts (go (kind pause_image config) stage (and_then found (λ next_move. scheduled pause_image config scripts few next_move.agenda (act (kind pause_image config) stage next_move.event))))
        → and_then found (λ next_move. scheduled pause_image config scripts many next_move.agenda (act (kind pause_image config) stage next_move.event)) ≡ and_then found (λ next_move. scheduled pause_image config scripts few next_move.agenda (act (kind pause_image config) stage next_move.event))
    by_next None later_still still_then = refl
    by_next (Some next_move) later_still still_then =
        let later : Stage Actor = act (kind pause_image config) stage next_move.event in
        ap (λ events. next_move.event ∷ events)
        (later_still next_move.agenda later (subst (IsStill scripts) (go-first (kind pause_image config) stage next_move.event (scheduled pause_image config scripts few next_move.agenda later)) still_then))

-- A trace that is replayed by so many steps is replayed by more, with the same answer.
pub more_steps : (bytes : List ℕ) (few many : ℕ) (answer : List ℕ) → few ≤ many → IsReplayed bytes few answer → IsReplayed bytes many answer
more_steps bytes few many answer fewer replayed = record {
  version = replayed.version;
  config = replayed.config;
  scripts = replayed.scripts;
  items = replayed.items;
  reads = replayed.reads;
  whole = subst (λ events. IsWhole replayed.config replayed.scripts events) (sym same) replayed.whole;
  text = subst (λ events. IsAnswerText replayed.version replayed.config.mutators (past pause_image replayed.config events) answer) (sym same) replayed.text;
}
  where
    end : ℕ → List (Event Order)
    end limit = events_of replayed.config replayed.scripts replayed.items limit

    same : end many ≡ end few
    same =
        enough replayed.config replayed.scripts few many (agenda_of replayed.items) (opening replayed.config) fewer
        (still replayed.config replayed.scripts (go (kind pause_image replayed.config) (opening replayed.config) (end few)) (every_list pause_image heap_pauses replayed.config (end few)).of_heap.machines replayed.whole.idle)
