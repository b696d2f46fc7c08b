use Rattle.shen_check.proofs.Verdicts.{one}
use Rattle.shen_check.proofs.laws.one_verdict.Goals as goal

pub returns : goal.returns
returns c = one
