use Rattle.cycle_steps.proofs.Evacuation.Parts.{swept_is_forwarded}
use Rattle.cycle_steps.proofs.evacuation_laws.swept_is_forwarded.Goals as goal

pub returns : goal.returns
returns c = swept_is_forwarded
