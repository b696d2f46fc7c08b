-- The history that a run notes: the entries that its events settle, in their order, as far as there is memory for them.
use Rattle.std.specs.Prelude.{ℕ, ◌≡◌, ◌+◌, ◌-◌, ◌==◌, List, [], ◌∷◌, ◌++◌, length, sum_by, Option, Some, None, if◌then◌else◌}
use Rattle.std.specs.List.{range_with_len}
use Rattle.heap_words.specs.declared.config.Config.{Config}
use Rattle.heap_words.specs.declared.schedule.Item.{Item}
use Rattle.heap_words.specs.Steps.{Stage, Event}
use Rattle.shen_graph.specs.declared.order.Order.{Order}
use Rattle.shen_graph.specs.declared.history.Entry as held
use Rattle.shen_graph.specs.History.{Entry}
use Rattle.shen_graph.specs.Noting.{Noting, seen}
use Rattle.shen_graph.specs.Work as work
use Rattle.heap_machines.specs.Pause.{pause_image}
use Rattle.step_core.specs.Actor.{Actor}
use Rattle.step_core.specs.Begins.{Run, ending}
use Rattle.step_core.specs.History.{told, history}
use Rattle.step_core.specs.Schedule.{Scripts, turn, Task, Agenda, scheduled, schedule_events}
use Rattle.shen_core.specs.declared.plain.Plain.{Plain}
use Rattle.shen_core.specs.declared.run.Ran.{Ran}
use Rattle.shen_core.specs.Runs.{event}
use Rattle.shen_core.specs.State.{config_of, notes_of, order_at, Shows}
use Rattle.shen_core.specs.Progress.{Jobs, Tells, WentOn, agenda}
use Rattle.shen_core.specs.WholeRun.{HasRun}

-- a history with one entry more, if there is memory for it
abbrev pub with_entry : Noting → Entry → Noting
with_entry noting entry = if noting.spare == 0 then noting else record { list = noting.list ++ entry ∷ []; spare = noting.spare - 1 }

-- and with these entries, as far as there is
unfoldable pub noted : Noting → List Entry → Noting
noted noting [] = noting
noted noting (entry ∷ entries) = noted (with_entry noting entry) entries

-- some run ends in the stage
abbrev pub IsEnding : Config → Stage Actor → Type 0
IsEnding config stage = (run : Run config) × (ending pause_image config run ≡ stage)

-- the entry that is there, if one is
abbrev pub entries_in : Option held.Entry → List Entry
entries_in None = []
entries_in (Some entry) = seen entry ∷ []

-- the entries that an event settles, if there is one
abbrev pub told_by : Config → Stage Actor → Option (Event Order) → List Entry
told_by config stage None = []
told_by config stage (Some next_event) = told config stage next_event

-- whatever stage of a run memory shows, the next event of the machine, under its order, settles this
abbrev pub Settles : Plain → ℕ → Option held.Entry → Type 0
Settles plain number entry = (stage : Stage Actor) → Shows plain stage → IsEnding (config_of plain) stage → told (config_of plain) stage (event number (order_at plain number)) ≡ entries_in entry

-- whatever stage of a run memory shows, what the machine's turn settles there was noted
abbrev pub NotesTurn : Plain → Jobs → ℕ → Plain → Type 0
NotesTurn plain jobs number after =
    (scripts : Scripts) (stage : Stage Actor) → Shows plain stage → Tells (config_of plain) scripts jobs stage → IsEnding (config_of plain) stage
    → notes_of after ≡ noted (notes_of plain) (told_by (config_of plain) stage (turn scripts stage number))

-- The schedule goes on from a stage that memory shows to one that it shows now, and if the first is one of a run, what the events
-- between them settle was noted.
pub record HasGone (config : Config) (scripts : Scripts) (stage : Stage Actor) (todo : Agenda) (left : ℕ) (plain after : Plain) (later : Jobs) (rest : Agenda) (remaining : ℕ) : Type 0 where
  pub went : WentOn config scripts stage todo left after later rest remaining
  pub notes : IsEnding config stage → notes_of after ≡ noted (notes_of plain) (history pause_image config stage went.goes.done)

-- whatever stage memory showed, the schedule went on from there to what memory shows now, and that was noted
abbrev pub RunsNoted : Plain → Jobs → Agenda → ℕ → Plain → Jobs → Agenda → ℕ → Type 0
RunsNoted plain jobs todo left after later rest remaining =
    (scripts : Scripts) (stage : Stage Actor) → Shows plain stage → Tells (config_of plain) scripts jobs stage → HasGone (config_of plain) scripts stage todo left plain after later rest remaining

-- the task was done, or as much of it as there were events left, and that was noted
abbrev pub DoesNoted : Plain → Jobs → Task → ℕ → Plain → Jobs → ℕ → Type 0
DoesNoted plain jobs task left after later remaining = (tasks : List Task) (from : ℕ) → RunsNoted plain jobs (agenda (task ∷ tasks) from) left after later (agenda tasks from) remaining

-- The agenda was run, and what its events settle was noted.
pub record HasRunNoted (config : Config) (scripts : Scripts) (stage : Stage Actor) (todo : Agenda) (limit : ℕ) (plain after : Plain) (later : Jobs) (result : Ran) : Type 0 where
  pub ran : HasRun config scripts stage todo limit after later result
  pub notes : IsEnding config stage → notes_of after ≡ noted (notes_of plain) (history pause_image config stage (scheduled pause_image config scripts limit todo stage))

abbrev pub EndsNoted : Plain → Jobs → Agenda → ℕ → Plain → Jobs → Ran → Type 0
EndsNoted plain jobs todo limit after later result =
    (scripts : Scripts) (stage : Stage Actor) → Shows plain stage → Tells (config_of plain) scripts jobs stage → HasRunNoted (config_of plain) scripts stage todo limit plain after later result

-- the number of all commands of the mutators' scripts
abbrev pub commands_in : Config → Jobs → ℕ
commands_in config jobs = sum_by (λ t. length (work.script_in jobs t)) (range_with_len 0 config.mutators)

-- whatever stage of a run memory showed, a history has got the entries that the events of the schedule settle from there, in their
-- order, and has used so much memory
pub record IsHistory (config : Config) (scripts : Scripts) (stage : Stage Actor) (items : List Item) (limit : ℕ) (old new : Noting) : Type 0 where
  pub entries : new.list ≡ old.list ++ history pause_image config stage (schedule_events pause_image config scripts items limit stage)
  pub spare : new.spare + length (history pause_image config stage (schedule_events pause_image config scripts items limit stage)) ≡ old.spare

abbrev pub NotesSchedule : Plain → Jobs → List Item → ℕ → (old new : Noting) → Type 0
NotesSchedule plain jobs items limit old new =
    (scripts : Scripts) (stage : Stage Actor) → Shows plain stage → Tells (config_of plain) scripts jobs stage → IsEnding (config_of plain) stage → IsHistory (config_of plain) scripts stage items limit old new
