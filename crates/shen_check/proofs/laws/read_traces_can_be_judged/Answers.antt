use Rattle.shen_check.proofs.ScriptsLeft.{can_be_judged}
use Rattle.shen_check.proofs.laws.read_traces_can_be_judged.Goals as goal

pub returns : goal.returns
returns c = can_be_judged
