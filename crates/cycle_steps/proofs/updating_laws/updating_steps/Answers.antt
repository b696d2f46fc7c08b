use Rattle.cycle_steps.proofs.Updating.Parts.{updating_steps}
use Rattle.cycle_steps.proofs.updating_laws.updating_steps.Goals as goal

pub returns : goal.returns
returns c = updating_steps
