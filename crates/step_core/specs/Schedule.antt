-- The events of a schedule: whose turn it is, event by event. After the items of the schedule the machines take turns
-- by their numbers, and idle ones are passed over.
use Rattle.std.specs.Prelude.{ℕ, zero, suc, ◌+◌, ◌-◌, Bool, true, false, nat_le, List, [], ◌∷◌, ◌++◌, length, map, Option, Some, None, slice_get, slice_index, slice_index_or, if◌then◌else◌}
use Rattle.std.specs.Option.{option_map}
use Rattle.std.specs.List.{range_with_len}
use Rattle.heap_words.specs.declared.config.Config.{Config}
use Rattle.heap_words.specs.declared.place.Place.{Place}
use Rattle.heap_words.specs.declared.schedule.Item.{Item}
use Rattle.heap_words.specs.declared.schedule.Item.TheVariants.{Steps, Until, Replies}
use Rattle.heap_words.specs.Access.{table_index}
use Rattle.heap_words.specs.Ranges.{seat_count}
use Rattle.heap_words.specs.Steps.{Stage, Event, act}
use Rattle.shen_graph.specs.declared.command.Command.{Command}
use Rattle.shen_graph.specs.declared.order.Order.{Order}
use Rattle.step_core.specs.Actor.{Machine, Actor}
use Rattle.heap_world.specs.Change.{Change}
use Rattle.step_core.specs.Settled.{control_number}
use Rattle.step_core.specs.Machines.{plan_of, order_by, answer_of, again_by, is_machine_at, kind}

-- the commands of each mutator
abbrev pub Scripts : Type 0
Scripts = List (List Command)

abbrev pub nth_script : Scripts → ℕ → List Command
nth_script scripts number = slice_index_or scripts number []

-- what a machine does on its turn: nothing where it is idle
abbrev pub order_on_turn : Scripts → ℕ → Actor → Machine → Option Order
order_on_turn scripts number actor machine = order_by (nth_script scripts number) actor.calls machine

abbrev pub turn_of : Scripts → ℕ → Option Actor → Option (Event Order)
turn_of scripts number None = None
turn_of scripts number (Some actor) = option_map (λ order. record { number = number; order = order }) (order_on_turn scripts number actor actor.machine)

-- the next event of a machine: none where it is idle
abbrev pub turn : Scripts → Stage Actor → ℕ → Option (Event Order)
turn scripts stage number = turn_of scripts number (slice_get stage.machines number)

abbrev pub waits_in : Stage Actor → Config → Order → Machine → Bool
waits_in stage config order machine = again_by (answer_of config order machine (slice_index stage.words (table_index (plan_of config order machine))))

abbrev pub waits_of : Config → Stage Actor → Order → Option Actor → Bool
waits_of config stage order None = false
waits_of config stage order (Some actor) = waits_in stage config order actor.machine

-- whether the event of a machine says that it waits
abbrev pub waits : Config → Stage Actor → Event Order → Bool
waits config stage event = waits_of config stage event.order (slice_get stage.machines event.number)

abbrev pub is_actor_at : Scripts → ℕ → Place → Option Actor → Bool
is_actor_at scripts number place None = false
is_actor_at scripts number place (Some actor) = is_machine_at place actor.machine (order_on_turn scripts number actor actor.machine)

-- Whether the next access of a machine stands at a place. Between two calls that of a mutator is the first one of the command
-- that follows in its script, or that of its end.
abbrev pub is_at_place : Scripts → Stage Actor → ℕ → Place → Bool
is_at_place scripts stage number place = is_actor_at scripts number place (slice_get stage.machines number)

abbrev pub given_of : Option Actor → ℕ
given_of None = 0
given_of (Some actor) = length actor.calls

-- how many replies a mutator has given
abbrev pub given : Stage Actor → ℕ → ℕ
given stage number = given_of (slice_get stage.machines number)

-- what is to be done: an item of the schedule, as far as it is left, or one step of the control
pub data Task : Type 0 where
  steps : (number count : ℕ) → Task
  until : (number : ℕ) (place : Place) → Task
  replies : (number count : ℕ) → Task
  control : Task

abbrev pub task_of : Item → Task
task_of (Steps number count) = steps number count
task_of (Until number place) = until number place
task_of (Replies number count) = replies number count

-- an event, and what is to be done after it
pub record ScheduledEvent : Type 0 where
  pub event : Event Order
  pub tasks : List Task

-- the event with what is to be done then, where there is an event
abbrev pub moves : Option (Event Order) → List Task → Option ScheduledEvent
moves None tasks = None
moves (Some event) tasks = Some (record { event = event; tasks = tasks })

-- the control's step after a step that waits
abbrev pub control_after : Bool → List Task
control_after true = control ∷ []
control_after false = []

abbrev pub waits_then : Config → Stage Actor → Option (Event Order) → Bool
waits_then config stage None = false
waits_then config stage (Some event) = waits config stage event

-- the next event of a task: none where the task is done, or its machine idle
abbrev pub move_of : Config → Scripts → Stage Actor → Task → Option ScheduledEvent
move_of config scripts stage (steps number zero) = None
move_of config scripts stage (steps number (suc count)) = moves (turn scripts stage number) (steps number count ∷ [])
move_of config scripts stage (until number place) = if is_at_place scripts stage number place then None else moves (turn scripts stage number) (until number place ∷ [])
move_of config scripts stage (replies number count) =
    if nat_le count (given stage number) then None
    else moves (turn scripts stage number) (control_after (waits_then config stage (turn scripts stage number)) ++ replies number count ∷ [])
move_of config scripts stage control = moves (turn scripts stage (control_number config)) []

abbrev pub or_else : Option (Event Order) → Option (Event Order) → Option (Event Order)
or_else None later = later
or_else (Some event) later = Some event

-- the machines take turns from this number on
abbrev pub numbers_from : Config → ℕ → List ℕ
numbers_from config from = range_with_len from (seat_count config.mutators config.helpers - from) ++ range_with_len 0 from

-- the first of these machines that is not idle makes the next event
abbrev pub first_turn : Scripts → Stage Actor → List ℕ → Option (Event Order)
first_turn scripts stage [] = None
first_turn scripts stage (number ∷ later_numbers) = or_else (turn scripts stage number) (first_turn scripts stage later_numbers)

-- what is to be done: the tasks, and then rounds from a machine on
pub record Agenda : Type 0 where
  pub tasks : List Task
  pub from : ℕ

-- the next event, and the agenda after it
pub record Next : Type 0 where
  pub event : Event Order
  pub agenda : Agenda

abbrev pub round_of : Option (Event Order) → Option Next
round_of None = None
round_of (Some event) = Some (record { event = event; agenda = record { tasks = []; from = event.number + 1 } })

abbrev pub after_move : Option ScheduledEvent → List Task → ℕ → Option Next → Option Next
after_move None tasks from later = later
after_move (Some move) tasks from later = Some (record { event = move.event; agenda = record { tasks = move.tasks ++ tasks; from = from } })

-- the first task that has an event makes it; after the tasks the rounds do
abbrev pub next_by : Config → Scripts → Stage Actor → List Task → ℕ → Option Next
next_by config scripts stage [] from = round_of (first_turn scripts stage (numbers_from config from))
next_by config scripts stage (task ∷ later_tasks) from = after_move (move_of config scripts stage task) later_tasks from (next_by config scripts stage later_tasks from)

abbrev pub next : Config → Scripts → Stage Actor → Agenda → Option Next
next config scripts stage agenda = next_by config scripts stage agenda.tasks agenda.from

abbrev pub and_then : Option Next → (Next → List (Event Order)) → List (Event Order)
and_then None further = []
and_then (Some next_step) further = next_step.event ∷ further next_step

-- at most so many events of an agenda
unfoldable pub scheduled : Change → Config → Scripts → ℕ → Agenda → Stage Actor → List (Event Order)
scheduled change config scripts zero agenda stage = []
scheduled change config scripts (suc count) agenda stage = and_then (next config scripts stage agenda) (λ next_step. scheduled change config scripts count next_step.agenda (act (kind change config) stage next_step.event))

-- the items of a schedule, and then rounds
abbrev pub agenda_of : List Item → Agenda
agenda_of items = record { tasks = map task_of items; from = 0 }

-- The events of a schedule from a stage on, cut after so many.
abbrev pub schedule_events : Change → Config → Scripts → List Item → ℕ → Stage Actor → List (Event Order)
schedule_events change config scripts items limit stage = scheduled change config scripts limit (agenda_of items) stage
