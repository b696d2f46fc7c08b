use Rattle.churn.proofs.OneAfterAnother.{one_in_turn}
use Rattle.churn.proofs.one_in_turn.Goals as goal

pub returns : goal.returns
returns c = one_in_turn
