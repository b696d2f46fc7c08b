use Rattle.shared_table.proofs.Kept.{step_laws}
use Rattle.shared_table.proofs.laws.steps_reach_memory.Goals as goal

pub returns : goal.returns
returns g c = λ kind start rule_kept. step_laws kind start rule_kept
