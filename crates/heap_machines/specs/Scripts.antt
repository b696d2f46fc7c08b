-- A mutator that has its commands from a script, one after the other.
use Rattle.std.specs.Prelude.{◌≡◌, false, true, List, length, take, Some, None, slice_get}
use Rattle.shen_graph.specs.declared.command.Command.{Command}
use Rattle.shen_graph.specs.History.{commands_of}
use Rattle.step_core.specs.Actor.{Actor}
use Rattle.step_core.specs.Machines.{is_resting, may_begin}

-- The calls that it has ended have the first commands of the script, in order, and a call in progress has the next one. Where it
-- has ended itself there is no next one.
pub record IsOnScript (script : List Command) (actor : Actor) : Type 0 where
  pub done : commands_of actor.calls ≡ take (length actor.calls) script
  pub doing : is_resting actor.machine ≡ false → slice_get script (length actor.calls) ≡ Some actor.command
  pub ended : is_resting actor.machine ≡ true → may_begin actor.machine ≡ false → slice_get script (length actor.calls) ≡ None

-- It is between two calls, and those that it has ended have the commands of the whole script, in order.
pub record HasDoneScript (script : List Command) (actor : Actor) : Type 0 where
  pub rest : is_resting actor.machine ≡ true
  pub commands : commands_of actor.calls ≡ script
