-- What memory saw of an event.
use Rattle.std.specs.Prelude.{ℕ, ◌≡◌, Option, Some, None, slice_get, slice_index}
use Rattle.heap_words.specs.declared.config.Config.{Config}
use Rattle.heap_words.specs.Access.{table_index}
use Rattle.heap_words.specs.Steps.{Stage, Event}
use Rattle.shen_graph.specs.declared.history.Entry.{Entry}
use Rattle.shen_graph.specs.declared.order.Order.{Order}
use Rattle.heap_machines.specs.declared.stepped.Stepped.{Stepped}
use Rattle.heap_machines.specs.declared.stepped.Stepped.TheVariants.{Idle}
use Rattle.step_core.specs.Actor.{Actor}
use Rattle.step_core.specs.Machines.{plan_of, place_in}
use Rattle.step_core.specs.History.{told}
use Rattle.step_core.specs.Schedule.{Scripts, turn}
use Rattle.shen_core.specs.declared.plain.Plain.{Plain}
use Rattle.shen_core.specs.Noting.{IsEnding, entries_in}
use Rattle.shen_core.specs.State.{config_of, Shows}
use Rattle.shen_core.specs.Progress.{Jobs, Tells}
use Rattle.shen_core.specs.declared.seen.Seen.{Seen}

-- what the machine of a turn said
abbrev pub said_of : Option Seen → Stepped
said_of None = Idle
said_of (Some seen) = seen.said

-- the machine, the place and the access are those of the event, and the word is the one that it finds
pub record Sees (config : Config) (stage : Stage Actor) (event : Event Order) (seen : Seen) : Type 0 where
  pub number_is : seen.number ≡ event.number
  pub place_is : (actor : Actor) → slice_get stage.machines event.number ≡ Some actor → seen.place ≡ place_in event.order actor.machine
  pub access_is : (actor : Actor) → slice_get stage.machines event.number ≡ Some actor → seen.access ≡ plan_of config event.order actor.machine
  pub found_is : seen.found ≡ slice_index stage.words (table_index seen.access)

-- whatever stage memory shows, this was seen of the machine's event there
abbrev pub SeesTurn : Plain → Jobs → ℕ → Seen → Type 0
SeesTurn plain jobs number seen = (scripts : Scripts) (stage : Stage Actor) → Shows plain stage → Tells (config_of plain) scripts jobs stage → (event : Event Order) → turn scripts stage number ≡ Some event → Sees (config_of plain) stage event seen

-- whatever stage of a run memory shows, the machine's event settles this entry there, or none
abbrev pub SettlesTurn : Plain → Jobs → ℕ → Option Entry → Type 0
SettlesTurn plain jobs number entry =
    (scripts : Scripts) (stage : Stage Actor) → Shows plain stage → Tells (config_of plain) scripts jobs stage → IsEnding (config_of plain) stage → (event : Event Order) → turn scripts stage number ≡ Some event
    → told (config_of plain) stage event ≡ entries_in entry
