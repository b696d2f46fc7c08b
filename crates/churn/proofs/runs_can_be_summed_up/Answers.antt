use Rattle.churn.proofs.Sums.{runs_can_be_summed_up}
use Rattle.churn.proofs.runs_can_be_summed_up.Goals as goal

pub returns : goal.returns
returns c = runs_can_be_summed_up
