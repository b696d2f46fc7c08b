use Rattle.shared_table.proofs.Dealing.{dealing}
use Rattle.shared_table.proofs.laws.bundles_are_all.Goals as goal

pub returns : goal.returns
returns g c = λ bundles view. dealing bundles view
