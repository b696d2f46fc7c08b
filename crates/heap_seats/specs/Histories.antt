-- Histories of a heap, from where it began.
use Rattle.std.specs.Prelude.{List}
use Rattle.heap_words.specs.declared.config.Config.{Config}
use Rattle.shen_graph.specs.declared.order.Order.{Order}
use Rattle.shen_graph.specs.Graph.{Graph}
use Rattle.shen_graph.specs.History.{Entry, EachIsLegal}
use Rattle.shen_graph.specs.Crowd.{AreCrowded}
use Rattle.heap_words.specs.Steps.{Stage, Event, go}
use Rattle.heap_machines.specs.Pause.{pause_image}
use Rattle.step_core.specs.Actor.{Actor}
use Rattle.step_core.specs.Begins.{Begins}
use Rattle.step_core.specs.Begun.{scripts_begun}
use Rattle.step_core.specs.History.{history}
use Rattle.table_heap.specs.Core.{heap_kind}
use Rattle.graph_placing.specs.Renewable.{IsRenewable}

-- where events lead from a start, and their history
abbrev pub led : Config → Stage Actor → List (Event Order) → Stage Actor
led config start events = go (heap_kind config) start events

abbrev pub past_of : Config → Stage Actor → List (Event Order) → List Entry
past_of config start events = history pause_image config start events

-- The start begins a graph whose objects can be named anew. So it is of each heap that was opened, and of each that goes on in place of another.
pub record BeginsRenewable (config : Config) (start : Stage Actor) : Type 0 where
  pub graph : Graph
  pub begins : Begins config start graph
  pub renewable : IsRenewable config.mutators graph

-- From this graph the history of the events is legal, and each allocation that it refuses was crowded out.
pub record IsLegalFrom (config : Config) (start : Stage Actor) (events : List (Event Order)) (first : Graph) : Type 0 where
  pub legal : EachIsLegal config.regions config.region_words first (past_of config start events)
  pub crowded : AreCrowded config.regions config.region_words first (scripts_begun config (led config start events)) (past_of config start events)

-- It is so of each graph that a start begins, and there is one. The opening begins that of the hub alone.
pub record OfEachBegun (config : Config) (start : Stage Actor) (P : Graph → Type 0) : Type 0 where
  pub some : ∥ BeginsRenewable config start ∥₁
  pub each : (first : Graph) → Begins config start first → P first
