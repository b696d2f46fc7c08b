-- What holds of marking in every run of a heap.
use Rattle.std.specs.Prelude.{ℕ, ◌≡◌, ◌+◌, List, [], ◌∷◌, ◌++◌, Option}
use Rattle.heap_words.specs.declared.config.Config.{Config}
use Rattle.heap_words.specs.Words.{Word, Phase}
use Rattle.heap_words.specs.Phases.{marking_phase}
use Rattle.heap_words.specs.Steps.{Stage, Event, go, Finds}
use Rattle.shen_graph.specs.declared.order.Order.{Order}
use Rattle.shen_graph.specs.declared.order.Order.TheVariants.{Nothing}
use Rattle.shen_graph.specs.Graph.{Graph}
use Rattle.shen_graph.specs.History.{after}
use Rattle.heap_world.specs.World.{Plot, IsMarkable}
use Rattle.heap_world.specs.Change.{image_view, image_words}
use Rattle.image_graph.specs.Promised.{Promises}
use Rattle.image_graph.specs.Holds.{HoldsBy}
use Rattle.cycle_words.specs.Marking.Close.{closed}
use Rattle.cycle_words.specs.Marking.WhileMarking.{IsMarkedThrough}
use Rattle.cycle_steps.specs.Chains.{IsSafe}
use Rattle.cycle_pauses.specs.Collect.{collect_image}
use Rattle.collector_rows.specs.declared.control_spot.ControlSpot.TheVariants.{LoadWord}
use Rattle.collector_rows.specs.declared.extent.Extent.{Extent}
use Rattle.collector_rows.specs.ControlRows.{Controlling}
use Rattle.step_core.specs.Actor.{controlling, Actor}
use Rattle.step_core.specs.Machines.{kind}
use Rattle.step_core.specs.History.{history}
use Rattle.step_core.specs.Settled.{settled}
use Rattle.step_core.specs.Sound.{world_of, StandsFor}
use Rattle.step_core.specs.Begins.{Begins}

-- Words and machines stand for a graph, and while objects are marked each object is marked, or was allocated since, or marking comes
-- to it by a chain of objects that are not marked yet.
pub record IsTracked (config : Config) (stage : Stage Actor) (graph : Graph) : Type 0 where
  pub stands : StandsFor config stage graph
  pub comes : settled config stage Phase ≡ marking_phase → (address : ℕ) → IsMarkable stands.block address → IsSafe config (world_of config stage stands.block stands.ghost graph) address

-- So it is after every list of steps, from a stage that begins a graph.
abbrev pub MarkingComesInRuns : Type 0
MarkingComesInRuns = (config : Config) (stage : Stage Actor) (graph : Graph) → Begins config stage graph → (events : List (Event Order))
    → IsTracked config (go (kind collect_image config) stage events) (after graph (history collect_image config stage events))

-- the words hold a graph, each object that can be reached is marked or was allocated since, and so is each that a field of such an
-- object names
pub record AreMarkedThrough (config : Config) (memory : Word → ℕ) : Type 0 where
  pub block : Plot
  pub owner : ℕ → Option ℕ
  pub promises : Promises
  pub graph : Graph
  pub holds : HoldsBy config memory block owner promises graph
  pub marked : IsMarkedThrough config memory block

-- In the pause that leaves the phase of marking, with the last word that the control loads: once the marks of the image are closed,
-- each object that can be reached is marked or was allocated since.
abbrev pub ReachableAreMarkedInRuns : Type 0
ReachableAreMarkedInRuns = (config : Config) (stage : Stage Actor) (graph : Graph) → Begins config stage graph → (number index got : ℕ) (extent : Extent) (actor : Actor) (control : Controlling) → Finds (kind collect_image config) stage number actor Nothing got
    → actor.machine ≡ controlling control → control.spot ≡ LoadWord index extent → index + 1 ≡ image_words config → image_view config (control.image ++ got ∷ []) Phase ≡ marking_phase
    → ∥ AreMarkedThrough config (closed config (image_view config (control.image ++ got ∷ []))) ∥₁
