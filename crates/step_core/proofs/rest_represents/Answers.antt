use Rattle.step_core.proofs.Theorem.EveryList.{run_rests}
use Rattle.step_core.proofs.rest_represents.Goals as goal

pub returns : goal.returns
returns c = run_rests
