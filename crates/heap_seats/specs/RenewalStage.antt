-- What is known of a heap while it is renewed.
use Rattle.heap_words.specs.declared.config.Config.{Config}
use Rattle.shen_graph.specs.Graph.{Graph}
use Rattle.heap_words.specs.Steps.{Stage}
use Rattle.step_core.specs.Actor.{Actor}
use Rattle.graph_placing.specs.Renewable.{IsRenewable}
use Rattle.heap_seats.specs.declared.renewing.Renewal.{Renewal}
use Rattle.heap_seats.specs.declared.room.RenewalRoom.{RenewalRoom}
use Rattle.heap_seats.specs.Renewed.{KeepsNames, IsGraphLeft}

-- the sizes of the heaps for which there is room
abbrev pub sizes_for : RenewalRoom → Config
sizes_for room = room.config

-- a stage was left with a graph whose objects can be named anew
pub record IsLeftRenewable (config : Config) (left : Stage Actor) : Type 0 where
  pub graph : Graph
  pub is_left : IsGraphLeft config left graph
  pub renewable : IsRenewable config.mutators graph

-- a graph was left which keeps its names
pub record IsLeftKept (config : Config) (left : Stage Actor) (why : Renewal) (graph : Graph) : Type 0 where
  pub is_left : IsGraphLeft config left graph
  pub keeps : KeepsNames why config graph
