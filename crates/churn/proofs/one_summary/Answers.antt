use Rattle.churn.proofs.Sums.{one_summary}
use Rattle.churn.proofs.one_summary.Goals as goal

pub returns : goal.returns
returns c = one_summary
