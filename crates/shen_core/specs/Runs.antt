-- Words and machines in memory, and the stages of runs that they show.
use Rattle.std.specs.Prelude.{ℕ, ◌≡◌, List, [], ◌∷◌, ◌++◌, map, slice_index}
use Rattle.heap_words.specs.Access.{table_index}
use Rattle.heap_words.specs.declared.config.Config.{Config}
use Rattle.heap_words.specs.Steps.{Stage, Event, act, go, IsEvent}
use Rattle.shen_graph.specs.declared.order.Order.{Order}
use Rattle.step_core.specs.Actor.{Machine, Actor}
use Rattle.heap_machines.specs.Pause.{pause_image}
use Rattle.step_core.specs.Machines.{plan_of, machine_after, kind}
use Rattle.step_core.specs.Begins.{Run, ending}

-- these words and machines are those of the stage, whose machines have their calls besides
pub record WordsShow (words : List ℕ) (machines : List Machine) (stage : Stage Actor) : Type 0 where
  pub words_are : stage.words ≡ words
  pub machines_are : map (λ a. a.machine) stage.machines ≡ machines

-- some run leads to these words and machines
pub record IsShownBySomeRun (config : Config) (words : List ℕ) (machines : List Machine) : Type 0 where
  pub run : Run config
  pub shows : WordsShow words machines (ending pause_image config run)

abbrev pub event : ℕ → Order → Event Order
event number order = record { number = number; order = order }

-- One event of a machine leads from these words and machines to those: whatever events lead to these, the same and this
-- one lead to those.
pub record IsOneEvent (config : Config) (words : List ℕ) (machines : List Machine) (new_words : List ℕ) (new_machines : List Machine) (number : ℕ) (order : Order) : Type 0 where
  pub is_event : (stage : Stage Actor) → WordsShow words machines stage → (actor : Actor) × IsEvent (kind pause_image config) stage (event number order) actor
  pub acts : (stage : Stage Actor) → WordsShow words machines stage → WordsShow new_words new_machines (act (kind pause_image config) stage (event number order))
  pub goes_on : (start : Stage Actor) (events : List (Event Order)) → WordsShow words machines (go (kind pause_image config) start events)
      → WordsShow new_words new_machines (go (kind pause_image config) start (events ++ event number order ∷ []))

-- a machine after the step that it makes on these words
abbrev pub machine_next : Config → List ℕ → Order → Machine → Machine
machine_next config words order machine = machine_after pause_image config order (slice_index words (table_index (plan_of config order machine))) machine
