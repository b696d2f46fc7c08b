use Rattle.step_core.proofs.Machines.Counted.{counted}
use Rattle.step_core.proofs.hints_are_counted.Goals as goal

pub returns : goal.returns
returns c = counted
