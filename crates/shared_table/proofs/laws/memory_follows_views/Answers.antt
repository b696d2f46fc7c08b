use Rattle.shared_table.proofs.Kept.{kept_laws}
use Rattle.shared_table.proofs.laws.memory_follows_views.Goals as goal

pub returns : goal.returns
returns g c = λ rule_kept. kept_laws rule_kept
