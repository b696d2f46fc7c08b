use Rattle.shared_table.proofs.Numbers.{number_laws}
use Rattle.shared_table.proofs.laws.numbers_stay.Goals as goal

pub returns : goal.returns
returns g c = number_laws
