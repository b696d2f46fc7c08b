use Rattle.shared_table.proofs.Rules.{laws}
use Rattle.shared_table.proofs.laws.steps_keep_the_rule.Goals as goal

pub returns : goal.returns
returns g c = λ kind start. laws kind start
