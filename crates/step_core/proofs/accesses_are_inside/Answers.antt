use Rattle.step_core.proofs.Theorem.EveryList.{reached_inside}
use Rattle.step_core.proofs.accesses_are_inside.Goals as goal

pub returns : goal.returns
returns c = reached_inside
