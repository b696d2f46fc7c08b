-- The history of a run: the entries that its events settle, in the order of the events.
use Rattle.std.specs.Prelude.{List, [], ◌∷◌, ◌++◌, Option, Some, None, slice_get, if◌then◌else◌}
use Rattle.heap_words.specs.declared.config.Config.{Config}
use Rattle.heap_world.specs.Change.{Change}
use Rattle.heap_words.specs.Steps.{Stage, Event, act}
use Rattle.shen_graph.specs.declared.order.Order.{Order}
use Rattle.shen_graph.specs.History.{Entry}
use Rattle.step_core.specs.Actor.{Machine, Actor}
use Rattle.step_core.specs.Machines.{takes_of, told_with, kind}
use Rattle.step_core.specs.Settled.{settled}

-- the entries that a step of a machine settles
abbrev pub told_by : Config → Stage Actor → Actor → Order → Machine → List Entry
told_by config stage actor order machine = told_with config (settled config stage) stage actor order machine

-- the entries that an event of this machine settles
abbrev pub told_of_machine : Config → Stage Actor → Event Order → Option Actor → List Entry
told_of_machine config stage event None = []
told_of_machine config stage event (Some actor) = if takes_of actor.machine event.order then told_by config stage actor event.order actor.machine else []

-- the entries that an event settles
unfoldable pub told : Config → Stage Actor → Event Order → List Entry
told config stage event = told_of_machine config stage event (slice_get stage.machines event.number)

-- the entries that these events settle, from a stage on
unfoldable pub history : Change → Config → Stage Actor → List (Event Order) → List Entry
history change config stage [] = []
history change config stage (event ∷ events) = told config stage event ++ history change config (act (kind change config) stage event) events
