use Rattle.shared_table.proofs.Reached.{reach_laws}
use Rattle.shared_table.proofs.laws.bundles_are_reached.Goals as goal

pub returns : goal.returns
returns g c = λ kind start. reach_laws kind start
