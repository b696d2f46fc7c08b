-- The next event of a walk, in each stage that memory shows.
use Rattle.std.specs.Prelude.{ℕ, ◌≡◌, ◌+◌, ◌<◌, ◌≤◌, true, false, [], drop, Option, Some, None}
use Rattle.heap_words.specs.declared.config.Config.{Config}
use Rattle.heap_words.specs.declared.schedule.Item.{Item}
use Rattle.heap_words.specs.Steps.{Stage, Event, act}
use Rattle.shen_graph.specs.declared.history.Entry.{Entry}
use Rattle.shen_graph.specs.declared.order.Order.{Order}
use Rattle.heap_machines.specs.Pause.{pause_image}
use Rattle.step_core.specs.Actor.{Actor}
use Rattle.step_core.specs.Machines.{kind}
use Rattle.step_core.specs.History.{told}
use Rattle.step_core.specs.Schedule.{Scripts, turn, waits, waits_then, task_of, moves, move_of, Agenda, Next, next}
use Rattle.shen_core.specs.declared.plain.Plain.{Plain}
use Rattle.shen_core.specs.Noting.{IsEnding, entries_in}
use Rattle.shen_core.specs.State.{config_of, seats_of, Shows}
use Rattle.shen_core.specs.Progress.{Jobs, Tells, HasNext, Runs}
use Rattle.shen_core.specs.declared.seen.Seen.{Seen}
use Rattle.shen_core.specs.declared.walk.Walk.{Walk}
use Rattle.shen_core.specs.Seen.{Sees}
use Rattle.shen_core.specs.Agendas.{agenda_number, tasks_after, agenda_in, agenda_after}

-- an item has no event any more
abbrev pub IsOver : Plain → Jobs → Item → Type 0
IsOver plain jobs item = (scripts : Scripts) (stage : Stage Actor) → Shows plain stage → Tells (config_of plain) scripts jobs stage → move_of (config_of plain) scripts stage (task_of item) ≡ None

-- the next event of an item is that of its machine's turn
abbrev pub WalksOn : Plain → Jobs → Item → Type 0
WalksOn plain jobs item = (scripts : Scripts) (stage : Stage Actor) → Shows plain stage → Tells (config_of plain) scripts jobs stage
    → move_of (config_of plain) scripts stage (task_of item) ≡ moves (turn scripts stage (agenda_number item)) (tasks_after (waits_then (config_of plain) stage (turn scripts stage (agenda_number item))) item)

-- the machines from one number on have no turn, below another
abbrev pub AreIdleFrom : Plain → ℕ → ℕ → Type 0
AreIdleFrom plain from end = (scripts : Scripts) (stage : Stage Actor) → Shows plain stage → (number : ℕ) → from ≤ number → number < end → turn scripts stage number ≡ None

-- one of these machines has a turn, and those before it have none; or none has
abbrev pub IsFirstBusy : Plain → ℕ → ℕ → Option ℕ → Type 0
IsFirstBusy plain from end None = AreIdleFrom plain from end
IsFirstBusy plain from end (Some number) = (from ≤ number) × (number < end) × AreIdleFrom plain from number × HasNext plain number true

-- whatever is done first, the next event is the same
abbrev pub HasSameNext : Plain → Jobs → Agenda → Agenda → Type 0
HasSameNext plain jobs todo rest = (scripts : Scripts) (stage : Stage Actor) → Shows plain stage → Tells (config_of plain) scripts jobs stage → next (config_of plain) scripts stage todo ≡ next (config_of plain) scripts stage rest

-- there is no next event
abbrev pub HasNoNext : Plain → Jobs → Agenda → Type 0
HasNoNext plain jobs todo = (scripts : Scripts) (stage : Stage Actor) → Shows plain stage → Tells (config_of plain) scripts jobs stage → next (config_of plain) scripts stage todo ≡ None

-- The machine has a turn, and its event is the next one of the walk; what is to be done then is what the walk notes.
pub record IsDueNext (plain : Plain) (jobs : Jobs) (walk : Walk) (number : ℕ) : Type 0 where
  pub within : number < seats_of plain
  pub has : HasNext plain number true
  pub rounds : walk.control_due ≡ false → walk.present ≡ None → drop walk.begun walk.schedule ≡ []
  pub next_is : (scripts : Scripts) (stage : Stage Actor) → Shows plain stage → Tells (config_of plain) scripts jobs stage → (event : Event Order) → turn scripts stage number ≡ Some event
      → next (config_of plain) scripts stage (agenda_in walk) ≡ Some (record { event = event; agenda = agenda_after walk number (waits (config_of plain) stage event) })

-- the next event was made, memory shows the stage after it, and the rest is to be done
pub record IsMade (config : Config) (scripts : Scripts) (stage : Stage Actor) (todo : Agenda) (plain : Plain) (later : Jobs) (rest : Agenda) (seen : Seen) : Type 0 where
  pub event : Event Order
  pub is : next config scripts stage todo ≡ Some (record { event = event; agenda = rest })
  pub shows : Shows plain (act (kind pause_image config) stage event)
  pub tells : Tells config scripts later (act (kind pause_image config) stage event)
  pub sees : Sees config stage event seen

-- there was no next event, and nothing changed
pub record HasNone (config : Config) (scripts : Scripts) (stage : Stage Actor) (todo : Agenda) (plain : Plain) (later : Jobs) (rest : Agenda) : Type 0 where
  pub none : next config scripts stage todo ≡ None
  pub none_later : next config scripts stage rest ≡ None
  pub shows : Shows plain stage
  pub tells : Tells config scripts later stage

-- the next event was made, or there was none
abbrev pub IsNextSeen : Config → Scripts → Stage Actor → Agenda → Plain → Jobs → Agenda → Option Seen → Type 0
IsNextSeen config scripts stage todo plain later rest None = HasNone config scripts stage todo plain later rest
IsNextSeen config scripts stage todo plain later rest (Some seen) = IsMade config scripts stage todo plain later rest seen

-- whatever stage memory showed, the next event of the agenda was made there, and the rest is to be done; or there was none
abbrev pub MakesNext : Plain → Jobs → Agenda → Plain → Jobs → Agenda → Option Seen → Type 0
MakesNext plain jobs todo after later rest result = (scripts : Scripts) (stage : Stage Actor) → Shows plain stage → Tells (config_of plain) scripts jobs stage → IsNextSeen (config_of plain) scripts stage todo after later rest result

-- and the next event settles this entry, or none
abbrev pub SettlesNext : Plain → Jobs → Agenda → Option Entry → Type 0
SettlesNext plain jobs todo entry =
    (scripts : Scripts) (stage : Stage Actor) → Shows plain stage → Tells (config_of plain) scripts jobs stage → IsEnding (config_of plain) stage → (next_step : Next) → next (config_of plain) scripts stage todo ≡ Some next_step
    → told (config_of plain) stage next_step.event ≡ entries_in entry

-- The events of an agenda were made, as many as a limit allows or all that there are; where the limit is higher, the schedule
-- goes on from there.
abbrev pub RunsOn : Plain → Jobs → Agenda → ℕ → Plain → Jobs → Agenda → ℕ → Type 0
RunsOn plain jobs todo limit after later rest left = (more : ℕ) → Runs plain jobs todo (limit + more) after later rest (left + more)
