-- A stage in which nobody does anything in the heap: each mutator is between two calls or has ended, each helper is outside, and the control
-- neither works on a unit nor has an image.
use Rattle.std.specs.Prelude.{ℕ, ◌≡◌, ◌≢◌, false, true, Some, None, slice_get}
use Rattle.heap_words.specs.declared.config.Config.{Config}
use Rattle.heap_words.specs.Steps.{Stage}
use Rattle.handshake.specs.Standing.{is_within}
use Rattle.mutator.specs.Orders.{is_between_calls}
use Rattle.collector_rows.specs.ControlRows.{Controlling}
use Rattle.step_core.specs.Actor.{controlling, Actor}
use Rattle.step_core.specs.Machines.{standing_of}
use Rattle.step_core.specs.Seats.{is_working}
use Rattle.step_core.specs.Settled.{stored_image, control_number}
use Rattle.step_core.specs.Sound.{IsMutator}
use Rattle.mutator.specs.Rows.{Mutating}

pub record IsAtRest (config : Config) (stage : Stage Actor) : Type 0 where
  pub calls : (number : ℕ) (actor : Actor) (mutator : Mutating) → IsMutator stage number actor mutator → is_between_calls mutator.spot ≡ true
  pub outside : (number : ℕ) (actor : Actor) → slice_get stage.machines number ≡ Some actor → number ≢ control_number config → is_within (standing_of actor.machine) ≡ false
  pub no_unit : (number : ℕ) (actor : Actor) (control : Controlling) → slice_get stage.machines number ≡ Some actor → actor.machine ≡ controlling control → is_working control.spot ≡ false
  pub no_image : (number : ℕ) (actor : Actor) (control : Controlling) → slice_get stage.machines number ≡ Some actor → actor.machine ≡ controlling control → stored_image control.spot control.image ≡ None
