use Rattle.cycle_steps.proofs.Resolving.Parts.{resolving_steps}
use Rattle.cycle_steps.proofs.resolving_laws.resolving_steps.Goals as goal

pub returns : goal.returns
returns c = resolving_steps
