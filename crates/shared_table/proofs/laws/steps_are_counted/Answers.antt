use Rattle.shared_table.proofs.Counted.{count_laws}
use Rattle.shared_table.proofs.laws.steps_are_counted.Goals as goal

pub returns : goal.returns
returns g c = λ kind start. count_laws kind start
