-- The calls of mutators, and the scripts that they have their commands from.
use Rattle.std.specs.Prelude.{ℕ, ◌≡◌, ◌<◌, true, Some, slice_get}
use Rattle.heap_words.specs.declared.config.Config.{Config}
use Rattle.heap_words.specs.Steps.{Stage}
use Rattle.heap_machines.specs.Scripts.{IsOnScript, HasDoneScript}
use Rattle.step_core.specs.Actor.{Actor}
use Rattle.heap_machines.specs.Roles.{is_mutating}
use Rattle.step_core.specs.Schedule.{Scripts, nth_script}

-- The machine is a mutator. The calls that it has ended have the first commands of its script, in order, and a call in
-- progress has the next one.
pub record CallsScript (scripts : Scripts) (stage : Stage Actor) (t : ℕ) : Type 0 where
  pub actor : Actor
  pub here : slice_get stage.machines t ≡ Some actor
  pub role : is_mutating actor.machine ≡ true
  pub calls : IsOnScript (nth_script scripts t) actor

-- The machine is between two calls. Those that it has ended have the commands of its whole script, in order.
pub record HasCalled (scripts : Scripts) (stage : Stage Actor) (t : ℕ) : Type 0 where
  pub actor : Actor
  pub here : slice_get stage.machines t ≡ Some actor
  pub called : HasDoneScript (nth_script scripts t) actor

-- each mutator calls the commands of its script, one after the other
abbrev pub AllCall : Config → Scripts → Stage Actor → Type 0
AllCall config scripts stage = (mutator : ℕ) → mutator < config.mutators → CallsScript scripts stage mutator

-- each mutator has called its whole script
abbrev pub AllHaveCalled : Config → Scripts → Stage Actor → Type 0
AllHaveCalled config scripts stage = (mutator : ℕ) → mutator < config.mutators → HasCalled scripts stage mutator
