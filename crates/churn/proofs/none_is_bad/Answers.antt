use Rattle.churn.proofs.Good.{none_is_bad}
use Rattle.churn.proofs.none_is_bad.Goals as goal

pub returns : goal.returns
returns c = none_is_bad
