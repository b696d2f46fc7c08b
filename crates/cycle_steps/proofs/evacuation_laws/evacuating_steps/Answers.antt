use Rattle.cycle_steps.proofs.Evacuation.Parts.{evacuating_steps}
use Rattle.cycle_steps.proofs.evacuation_laws.evacuating_steps.Goals as goal

pub returns : goal.returns
returns c = evacuating_steps
