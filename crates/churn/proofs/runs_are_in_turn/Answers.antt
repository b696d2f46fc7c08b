use Rattle.churn.proofs.OneAfterAnother.{runs_are_in_turn}
use Rattle.churn.proofs.runs_are_in_turn.Goals as goal

pub returns : goal.returns
returns c = runs_are_in_turn
