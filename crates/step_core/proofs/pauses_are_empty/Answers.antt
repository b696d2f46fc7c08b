use Rattle.step_core.proofs.Theorem.EveryList.{run_pauses}
use Rattle.step_core.proofs.pauses_are_empty.Goals as goal

pub returns : goal.returns
returns c = run_pauses
