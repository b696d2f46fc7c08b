use Rattle.step_core.proofs.Theorem.EveryList.{every_run}
use Rattle.step_core.proofs.every_schedule.Goals as goal

pub returns : goal.returns
returns c = every_run
