-- What comes of renewing a heap.
use Rattle.std.specs.Prelude.{ℕ, ◌≡◌, None}
use Rattle.heap_words.specs.declared.config.Config.{Config}
use Rattle.heap_words.specs.Steps.{Stage}
use Rattle.shen_graph.specs.declared.name.Name.{Name}
use Rattle.shen_graph.specs.Graph.{Graph}
use Rattle.heap_machines.specs.Pause.{pause_image}
use Rattle.step_core.specs.Actor.{Actor}
use Rattle.step_core.specs.Begins.{Run, Begins, ending, graph_after}
use Rattle.shen_core.specs.declared.plain.Plain.{Plain}
use Rattle.shen_core.specs.State.{config_of, Shows}
use Rattle.graph_placing.specs.Renewable.{IsRenewable}
use Rattle.graph_placing.specs.Renewed.{HoldsNothing}
use Rattle.graph_placing.specs.SameGraph.{IsSameAnew}
use Rattle.shen_core.specs.declared.renewing.Renewal.{Renewal}
use Rattle.shen_core.specs.declared.renewing.Renewal.TheVariants.{Renewed, Pinned, TooSmall}

-- a fact of the new heap, where there is one
abbrev pub IfHeapRenewed : Renewal → (Plain → Type 0) → Type 0
IfHeapRenewed (Renewed plain) P = P plain
IfHeapRenewed Pinned P = Unit {0}
IfHeapRenewed TooSmall P = Unit {0}

-- a heap stands where some run led, after which its graph can be named anew
pub record StandsRenewable (plain : Plain) : Type 0 where
  pub run : Run (config_of plain)
  pub leads : Shows plain (ending pause_image (config_of plain) run)
  pub renewable : IsRenewable (config_of plain).mutators (graph_after pause_image (config_of plain) run)

-- The new heap stands where runs may begin that go on from a graph; this is the same graph as the one before, up to names that are counted
-- anew, and it can be named anew once more. Nothing was pinned, and nothing is.
pub record BeginsAnew (config : Config) (before : Graph) (new : Plain) : Type 0 where
  pub sizes : config_of new ≡ config
  pub unpinned : HoldsNothing config.mutators before
  pub start : Stage Actor
  pub shows : Shows new start
  pub graph : Graph
  pub begins : Begins config start graph
  pub names : Name → Name
  pub same : IsSameAnew names config.mutators before graph
  pub no_pins : (thread slot : ℕ) → graph.pin thread slot ≡ None
  pub renewable : IsRenewable config.mutators graph
