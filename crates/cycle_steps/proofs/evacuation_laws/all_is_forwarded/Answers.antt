use Rattle.cycle_steps.proofs.Evacuation.Parts.{all_is_forwarded}
use Rattle.cycle_steps.proofs.evacuation_laws.all_is_forwarded.Goals as goal

pub returns : goal.returns
returns c = all_is_forwarded
