-- How many events a listing has.
use Rattle.std.specs.Prelude.{ℕ, ◌≡◌, List, length}
use Rattle.heap_words.specs.declared.schedule.Item.{Item}
use Rattle.heap_words.specs.Steps.{Stage}
use Rattle.heap_machines.specs.Pause.{pause_image}
use Rattle.step_core.specs.Actor.{Actor}
use Rattle.step_core.specs.Schedule.{Scripts, Agenda, agenda_of, scheduled}
use Rattle.shen_core.specs.declared.plain.Plain.{Plain}
use Rattle.shen_core.specs.State.{config_of, Shows}
use Rattle.shen_core.specs.Progress.{Jobs, Tells}

-- whatever stage memory showed, the agenda has so many events from there, cut after a limit
abbrev pub HasEvents : Plain → Jobs → Agenda → ℕ → ℕ → Type 0
HasEvents plain jobs todo limit events = (scripts : Scripts) (stage : Stage Actor) → Shows plain stage → Tells (config_of plain) scripts jobs stage → length (scheduled pause_image (config_of plain) scripts limit todo stage) ≡ events

-- and so a schedule
abbrev pub CountsEvents : Plain → Jobs → List Item → ℕ → ℕ → Type 0
CountsEvents plain jobs items limit events = HasEvents plain jobs (agenda_of items) limit events
