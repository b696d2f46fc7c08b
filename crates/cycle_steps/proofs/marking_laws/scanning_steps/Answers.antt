use Rattle.cycle_steps.proofs.Parts.{scanning_steps}
use Rattle.cycle_steps.proofs.marking_laws.scanning_steps.Goals as goal

pub returns : goal.returns
returns c = scanning_steps
