use Rattle.churn.proofs.OneAfterAnother.{none_is_full}
use Rattle.churn.proofs.none_is_full.Goals as goal

pub returns : goal.returns
returns c = none_is_full
