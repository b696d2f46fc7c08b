-- The events of a schedule are turns of its machines. So what each turn keeps, they keep.
use Rattle.std.proofs.Common.{◌≡◌, ℕ, zero, suc, Bool, true, false, List, [], ◌∷◌, Option, Some, None, refl, sym, ap, ◌∙◌, subst}
use Rattle.heap_machines.specs.Pause.{pause_image}
use Rattle.std.specs.Prelude.{nat_le, if◌then◌else◌}
use Rattle.std.proofs.lemmas.Option.{same_Some}
use Rattle.heap_words.specs.declared.config.Config.{Config}
use Rattle.heap_words.specs.Steps.{Stage, Event, act, go}
use Rattle.heap_words.proofs.Runs.{go-none, go-first}
use Rattle.shen_graph.specs.declared.order.Order.{Order}
use Rattle.step_core.specs.Actor.{Actor}
use Rattle.step_core.specs.Machines.{kind}
use Rattle.step_core.specs.Schedule.{Scripts, turn, is_at_place, given, Task, steps, until, replies, control, ScheduledEvent, moves, move_of, or_else, first_turn, numbers_from, Agenda, Next, round_of, after_move, next_by, next, and_then, scheduled}

-- a move has the event that it is of
moves_turn : (found : Option (Event Order)) (tasks : List Task) (move : ScheduledEvent) → moves found tasks ≡ Some move → found ≡ Some move.event
moves_turn None tasks move found = absurd cc
moves_turn (Some found_event) tasks move found = ap (λ (y : ScheduledEvent). Some y.event) (same_Some (record { event = found_event; tasks = tasks }) move found)

-- the event is a machine's turn
abbrev IsSomeTurn : Scripts → Stage Actor → Event Order → Type 0
IsSomeTurn scripts stage event = (number : ℕ) × (turn scripts stage number ≡ Some event)

-- where a test gives something, it is what stands behind it
by_test : {A : Type 0} (holds : Bool) (found : Option A) (y : A) → (if holds then None else found) ≡ Some y → found ≡ Some y
by_test true found y test_found = absurd cc
by_test false found y test_found = test_found

-- the event of a task is the turn of its machine
task_turn : (config : Config) (scripts : Scripts) (stage : Stage Actor) (task : Task) (move : ScheduledEvent) → move_of config scripts stage task ≡ Some move → IsSomeTurn scripts stage move.event
task_turn config scripts stage (steps number zero) move move_found = absurd cc
task_turn config scripts stage (steps number (suc count)) move move_found = (number, moves_turn (turn scripts stage number) _ move move_found)
task_turn config scripts stage (until number place) move move_found = (number, moves_turn (turn scripts stage number) _ move (by_test (is_at_place scripts stage number place) _ move move_found))
task_turn config scripts stage (replies number count) move move_found = (number, moves_turn (turn scripts stage number) _ move (by_test (nat_le count (given stage number)) _ move move_found))
task_turn config scripts stage control move move_found = (_, moves_turn _ [] move move_found)

-- the event of a round is the turn of one of its machines
round_turn : (scripts : Scripts) (stage : Stage Actor) (numbers : List ℕ) (event : Event Order) → first_turn scripts stage numbers ≡ Some event → IsSomeTurn scripts stage event
round_turn scripts stage [] event first_found = absurd cc
round_turn scripts stage (number ∷ numbers) event first_found = by_first (turn scripts stage number) refl (round_turn scripts stage numbers event) first_found
  where
    by_first : (found : Option (Event Order)) → turn scripts stage number ≡ found → (first_turn scripts stage numbers ≡ Some event → IsSomeTurn scripts stage event) → or_else found (first_turn scripts stage numbers) ≡ Some event → IsSomeTurn scripts stage event
    by_first None turn_found others_turn is_next = others_turn is_next
    by_first (Some found_event) turn_found others_turn is_next = (number, turn_found ∙ is_next)

-- so is the event that comes next where no task is left
round_next : (scripts : Scripts) (stage : Stage Actor) (found : Option (Event Order)) (next_event : Next) → ((event : Event Order) → found ≡ Some event → IsSomeTurn scripts stage event) → round_of found ≡ Some next_event → IsSomeTurn scripts stage next_event.event
round_next scripts stage None next_event each_turn found = absurd cc
round_next scripts stage (Some found_event) next_event each_turn found = subst (λ (z : Next). IsSomeTurn scripts stage z.event) (same_Some _ next_event found) (each_turn found_event refl)

-- the next event of an agenda is a machine's turn
next_turn : (config : Config) (scripts : Scripts) (stage : Stage Actor) (tasks : List Task) (from : ℕ) (next_event : Next) → next_by config scripts stage tasks from ≡ Some next_event → IsSomeTurn scripts stage next_event.event
next_turn config scripts stage [] from next_event event_found = round_next scripts stage (first_turn scripts stage (numbers_from config from)) next_event (round_turn scripts stage (numbers_from config from)) event_found
next_turn config scripts stage (task ∷ later_tasks) from next_event next_found = by_move (move_of config scripts stage task) refl (next_turn config scripts stage later_tasks from next_event) next_found
  where
    by_move : (event_found : Option ScheduledEvent) → move_of config scripts stage task ≡ event_found → (next_by config scripts stage later_tasks from ≡ Some next_event → IsSomeTurn scripts stage next_event.event) → after_move event_found later_tasks from (next_by config scripts stage later_tasks from) ≡ Some next_event → IsSomeTurn scripts stage next_event.event
    by_move None move_found others_turn after_found = others_turn after_found
    by_move (Some move) move_found others_turn after_found = subst (λ (z : Next). IsSomeTurn scripts stage z.event) (same_Some _ next_event after_found) (task_turn config scripts stage task move move_found)

-- what each turn keeps, the events of a schedule keep
pub schedule_keeps : (config : Config) (scripts : Scripts) (P : Stage Actor → Type 0) → ((stage : Stage Actor) (number : ℕ) (event : Event Order) → turn scripts stage number ≡ Some event → P stage → P (act (kind pause_image config) stage event))
    → (count : ℕ) (agenda : Agenda) (stage : Stage Actor) → P stage → P (go (kind pause_image config) stage (scheduled pause_image config scripts count agenda stage))
unfolding scheduled
schedule_keeps config scripts P turn_keeps zero agenda stage stage_holds = subst P (sym (go-none (kind pause_image config) stage)) stage_holds
schedule_keeps config scripts P turn_keeps (suc count) agenda stage stage_holds = by_next (next config scripts stage agenda) refl (schedule_keeps config scripts P turn_keeps count)
  where
    by_next : (found : Option Next) → next config scripts stage agenda ≡ found → ((later : Agenda) (other_stage : Stage Actor) → P other_stage → P (go (kind pause_image config) other_stage (scheduled pause_image config scripts count later other_stage))) → P (go (kind pause_image config) stage (and_then found (λ next_event. scheduled pause_image config scripts count next_event.agenda (act (kind pause_image config) stage next_event.event))))
    by_next None next_found rest_keeps = subst P (sym (go-none (kind pause_image config) stage)) stage_holds
    by_next (Some next_event) next_found rest_keeps =
        let some_turn = next_turn config scripts stage agenda.tasks agenda.from next_event next_found in
        subst P (sym (go-first (kind pause_image config) stage next_event.event _)) (rest_keeps next_event.agenda (act (kind pause_image config) stage next_event.event) (turn_keeps stage some_turn.0 next_event.event some_turn.1 stage_holds))
