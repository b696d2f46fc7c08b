-- Where runs begin: stages in which all machines are idle, such as the opening.
use Rattle.std.specs.Prelude.{ℕ, ◌≡◌, ◌+◌, ◌<◌, true, List, [], length, Some, slice_get}
use Rattle.heap_words.specs.declared.config.Config.{Config}
use Rattle.heap_words.specs.Ranges.{seat_count}
use Rattle.heap_words.specs.Words.{Word, Pause, Left, State, Phase, Cset, view, table_words}
use Rattle.heap_words.specs.Steps.{Stage, Event, go}
use Rattle.shen_graph.specs.declared.order.Order.{Order}
use Rattle.shen_graph.specs.Graph as graphs
use Rattle.shen_graph.specs.Graph.{Graph}
use Rattle.shen_graph.specs.History.{Entry, after}
use Rattle.mutator.specs.Orders.{is_valid}
use Rattle.heap_world.specs.Asking.{nothing}
use Rattle.heap_world.specs.Represents.{Represents}
use Rattle.heap_world.specs.Change.{Change}
use Rattle.step_core.specs.Actor.{Actor}
use Rattle.step_core.specs.Machines.{HasNumber, IsIdle, kind}
use Rattle.step_core.specs.Opening.{opening}
use Rattle.step_core.specs.History.{history}

-- the machine of a number is idle and has ended no call yet
pub record HasCalledNothing (config : Config) (phase cset : ℕ) (graph : Graph) (number : ℕ) (actor : Actor) : Type 0 where
  pub number_is : HasNumber config number actor.machine
  pub idle : IsIdle phase cset graph number actor.machine
  pub calls : actor.calls ≡ []
  pub valid : is_valid actor.command ≡ true

-- No pause is wanted or runs, no machine is inside, and no mutator has ended.
pub record IsCalmOutside (config : Config) (memory : Word → ℕ) : Type 0 where
  pub pause : memory Pause ≡ 0
  pub states : (seat : ℕ) → seat < config.mutators + config.helpers → memory (State seat) ≡ 0
  pub left : memory Left ≡ config.mutators

-- A stage in which runs may begin: its words stand for a graph, nobody waits, and each machine is idle.
pub record Begins (config : Config) (stage : Stage Actor) (graph : Graph) : Type 0 where
  pub words : length stage.words ≡ table_words config
  pub seats : length stage.machines ≡ seat_count config.mutators config.helpers
  pub stands : Represents config (view config stage.words) graph (λ t. nothing)
  pub outside : IsCalmOutside config (view config stage.words)
  pub machines : (number : ℕ) (actor : Actor) → slice_get stage.machines number ≡ Some actor → HasCalledNothing config (view config stage.words Phase) (view config stage.words Cset) graph number actor

-- a run: a stage that begins a graph, and what happens from there
pub record Run (config : Config) : Type 0 where
  pub start : Stage Actor
  pub graph : Graph
  pub begins : Begins config start graph
  pub events : List (Event Order)

-- where a run leads
abbrev pub ending : Change → (config : Config) → Run config → Stage Actor
ending change config run = go (kind change config) run.start run.events

-- its history
abbrev pub history_in : Change → (config : Config) → Run config → List Entry
history_in change config run = history change config run.start run.events

-- the graph after its history
abbrev pub graph_after : Change → (config : Config) → Run config → Graph
graph_after change config run = after run.graph (history_in change config run)

-- the graph before the first event
abbrev pub first_graph : Config → Graph
first_graph config = graphs.opening config.mutators

-- the stage that events lead to from the opening
abbrev pub reached : Change → Config → List (Event Order) → Stage Actor
reached change config events = go (kind change config) (opening config) events

-- the history of events from the opening
abbrev pub past : Change → Config → List (Event Order) → List Entry
past change config events = history change config (opening config) events
