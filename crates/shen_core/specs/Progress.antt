-- From one moment of a run of a schedule to a later one.
use Rattle.std.specs.Prelude.{ℕ, ◌≡◌, ◌+◌, ◌<◌, Bool, true, false, List, ◌∷◌, ◌++◌, length, map, All, Option, Some, None, is_some, slice_get, nat_lt, if◌then◌else◌}
use Rattle.heap_words.specs.declared.config.Config.{Config}
use Rattle.heap_words.specs.Ranges.{seat_count}
use Rattle.heap_words.specs.declared.schedule.Item.{Item}
use Rattle.heap_words.specs.declared.schedule.Item.TheVariants.{Steps, Until, Replies}
use Rattle.heap_words.specs.Steps.{Stage, Event, act, go}
use Rattle.shen_graph.specs.declared.command.Command.{Command}
use Rattle.shen_graph.specs.Valid.{IsValid, most_objects}
use Rattle.shen_graph.specs.Work as work
use Rattle.shen_graph.specs.declared.order.Order.{Order}
use Rattle.shen_graph.specs.declared.order.Order.TheVariants.{Nothing}
use Rattle.step_core.specs.Actor.{Actor}
use Rattle.heap_machines.specs.Pause.{pause_image}
use Rattle.step_core.specs.Settled.{image_read, control_number}
use Rattle.step_core.specs.Machines.{kind, made_of_machine, at_hand_of, is_resting}
use Rattle.heap_machines.specs.Turn.{order_for}
use Rattle.step_core.specs.Schedule.{Scripts, nth_script, turn, waits, Task, Agenda, scheduled}
use Rattle.shen_core.specs.declared.plain.Plain.{Plain}
use Rattle.heap_machines.specs.declared.stepped.Stepped.{Stepped}
use Rattle.heap_machines.specs.declared.stepped.Stepped.TheVariants.{More, Again, Done, Idle}
use Rattle.shen_core.specs.Runs.{event}
use Rattle.shen_core.specs.State.{config_of, orders_of, machine_at, Shows}

-- the work of the threads, as contracts see it
abbrev pub Jobs : Type 0
Jobs = List (Option work.Progress)

-- Events lead from a stage with an agenda and so many events left to another, and the schedule goes on from there.
pub record Goes (config : Config) (scripts : Scripts) (stage : Stage Actor) (agenda : Agenda) (left : ℕ) (other_stage : Stage Actor) (rest : Agenda) (later : ℕ) : Type 0 where
  pub done : List (Event Order)
  pub leads : go (kind pause_image config) stage done ≡ other_stage
  pub events : scheduled pause_image config scripts left agenda stage ≡ done ++ scheduled pause_image config scripts later rest other_stage
  pub count : length done + later ≡ left

-- the work has these scripts, and its replies are those of the calls that the machines of the stage have ended
pub record Tells (config : Config) (scripts : Scripts) (jobs : Jobs) (stage : Stage Actor) : Type 0 where
  pub scripts_are : (mutator : ℕ) → mutator < config.mutators → work.script_in jobs mutator ≡ nth_script scripts mutator
  pub replies : (mutator : ℕ) (actor : Actor) → mutator < config.mutators → slice_get stage.machines mutator ≡ Some actor → work.replies_of jobs mutator ≡ map (λ e. e.reply) actor.calls

-- a script that a mutator can be given: its commands are in range, and no more than there are names for what they make
abbrev pub IsRunnable : List Command → Type 0
IsRunnable script = All IsValid script × (length script < most_objects)

-- A `Plain` between two steps, and work for its mutators: no order is pending, the commands are in range, and there are
-- names left for what the commands to come may make.
pub record CanRun (plain : Plain) (jobs : Jobs) : Type 0 where
  pub orders : All (λ order. order ≡ Nothing) (orders_of plain)
  pub jobs_are : (t : ℕ) → t < (config_of plain).mutators → work.HasScript jobs t
  pub commands : (t : ℕ) → t < (config_of plain).mutators → All IsValid (work.script_in jobs t)
  pub busy : (t : ℕ) → t < (config_of plain).mutators → is_resting (machine_at plain t) ≡ false → length (work.replies_of jobs t) < length (work.script_in jobs t)
  pub made : (t : ℕ) → t < (config_of plain).mutators → made_of_machine (machine_at plain t) + length (work.script_in jobs t) < most_objects + (length (work.replies_of jobs t) + at_hand_of (machine_at plain t))

-- the next command of a machine's script, which only a mutator has
abbrev pub next_for : Config → Jobs → ℕ → Option Command
next_for config jobs number = if nat_lt number config.mutators then work.next_of jobs number else None

-- whether a machine has a turn, and the order that it has then
abbrev pub IsNextTurn : Plain → Jobs → ℕ → Bool → Order → Type 0
IsNextTurn plain jobs number has_turn order = order_for (next_for (config_of plain) jobs number) (machine_at plain number) ≡ (if has_turn then Some order else None)

-- the event of a machine under an order, if it makes one
abbrev pub event_if : Bool → ℕ → Order → Option (Event Order)
event_if true number order = Some (event number order)
event_if false number order = None

-- whatever stage memory shows, the machine's turn there is its event under the order that it has now, if it has a turn
abbrev pub IsTurn : Plain → Jobs → ℕ → Bool → Order → Type 0
IsTurn plain jobs number has_turn order = (scripts : Scripts) (stage : Stage Actor) → Shows plain stage → Tells (config_of plain) scripts jobs stage → turn scripts stage number ≡ event_if has_turn number order

-- the machine was idle, and nothing changed
pub record IsPassed (config : Config) (scripts : Scripts) (stage : Stage Actor) (number : ℕ) (plain : Plain) (jobs : Jobs) : Type 0 where
  pub idle : turn scripts stage number ≡ None
  pub shows : Shows plain stage
  pub tells : Tells config scripts jobs stage

-- the machine made its event, and said whether it waits
pub record IsMovedOn (config : Config) (scripts : Scripts) (stage : Stage Actor) (number : ℕ) (plain : Plain) (jobs : Jobs) (waiting : Bool) : Type 0 where
  pub event : Event Order
  pub is : turn scripts stage number ≡ Some event
  pub waits_is : waits config stage event ≡ waiting
  pub shows : Shows plain (act (kind pause_image config) stage event)
  pub tells : Tells config scripts jobs (act (kind pause_image config) stage event)

-- what a turn has done, by what the machine said
abbrev pub Turned : Config → Scripts → Stage Actor → ℕ → Plain → Jobs → Stepped → Type 0
Turned config scripts stage number plain jobs Idle = IsPassed config scripts stage number plain jobs
Turned config scripts stage number plain jobs Again = IsMovedOn config scripts stage number plain jobs true
Turned config scripts stage number plain jobs More = IsMovedOn config scripts stage number plain jobs false
Turned config scripts stage number plain jobs Done = IsMovedOn config scripts stage number plain jobs false

-- the schedule goes on from a stage that memory shows to one that it shows now
pub record WentOn (config : Config) (scripts : Scripts) (s : Stage Actor) (agenda : Agenda) (left : ℕ) (plain : Plain) (jobs : Jobs) (rest : Agenda) (later : ℕ) : Type 0 where
  pub stage : Stage Actor
  pub goes : Goes config scripts s agenda left stage rest later
  pub shows : Shows plain stage
  pub tells : Tells config scripts jobs stage

-- whatever stage memory shows, the machine made its turn there
abbrev pub HasTurned : Plain → Jobs → ℕ → Plain → Jobs → Stepped → Type 0
HasTurned plain jobs number after later result =
    (scripts : Scripts) (stage : Stage Actor) → Shows plain stage → Tells (config_of plain) scripts jobs stage → Turned (config_of plain) scripts stage number after later result

abbrev pub agenda : List Task → ℕ → Agenda
agenda tasks from = record { tasks = tasks; from = from }

-- whatever stage memory showed, the schedule went on from there to what memory shows now
abbrev pub Runs : Plain → Jobs → Agenda → ℕ → Plain → Jobs → Agenda → ℕ → Type 0
Runs plain jobs todo left after later rest remaining =
    (scripts : Scripts) (stage : Stage Actor) → Shows plain stage → Tells (config_of plain) scripts jobs stage → WentOn (config_of plain) scripts stage todo left after later rest remaining

-- the task was done, or as much of it as there were events left
abbrev pub DoesTask : Plain → Jobs → Task → ℕ → Plain → Jobs → ℕ → Type 0
DoesTask plain jobs task left after later remaining = (tasks : List Task) (from : ℕ) → Runs plain jobs (agenda (task ∷ tasks) from) left after later (agenda tasks from) remaining

-- no machine has a turn
abbrev pub AreIdle : Config → Scripts → Stage Actor → Type 0
AreIdle config scripts stage = (number : ℕ) → number < seat_count config.mutators config.helpers → turn scripts stage number ≡ None

-- whatever stage memory shows, no machine has a turn there
abbrev pub AllIdle : Plain → Jobs → Type 0
AllIdle plain jobs = (scripts : Scripts) (stage : Stage Actor) → Shows plain stage → Tells (config_of plain) scripts jobs stage → AreIdle (config_of plain) scripts stage

-- the machine of an item is one of the heap, and where replies are counted a mutator
abbrev pub IsInSeats : Config → Item → Type 0
IsInSeats config (Steps number count) = number < seat_count config.mutators config.helpers
IsInSeats config (Until number place) = number < seat_count config.mutators config.helpers
IsInSeats config (Replies number count) = number < config.mutators

-- whatever stage memory shows, some machine has a turn there
abbrev pub SomeBusy : Plain → Jobs → Type 0
SomeBusy plain jobs = (scripts : Scripts) (stage : Stage Actor) → Shows plain stage → Tells (config_of plain) scripts jobs stage → AreIdle (config_of plain) scripts stage → ⊥

-- whatever stage memory shows, the machine has a turn there, or has none, by any scripts
abbrev pub HasNext : Plain → ℕ → Bool → Type 0
HasNext plain number has_turn = (scripts : Scripts) (stage : Stage Actor) → Shows plain stage → is_some (turn scripts stage number) ≡ has_turn

-- no mutator has a call in progress, and the control is not storing a new image
pub record AllRest (plain : Plain) : Type 0 where
  pub mutators : (number : ℕ) → number < (config_of plain).mutators → is_resting (machine_at plain number) ≡ true
  pub control : image_read (machine_at plain (control_number (config_of plain))) ≡ None
