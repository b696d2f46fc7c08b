use Rattle.churn.proofs.Played.{there_is_one_in_turn}
use Rattle.churn.proofs.there_is_one_in_turn.Goals as goal

pub returns : goal.returns
returns c = there_is_one_in_turn
