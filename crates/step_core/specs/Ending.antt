-- When a machine has ended that says so: the control.
use Rattle.std.specs.Prelude.{Bool}
use Rattle.step_core.specs.Actor.{Actor}
use Rattle.step_core.specs.Machines.{has_ended_of}

abbrev pub has_ended : Actor → Bool
has_ended actor = has_ended_of actor.machine
