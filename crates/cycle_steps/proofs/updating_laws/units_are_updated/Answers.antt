use Rattle.cycle_steps.proofs.Updating.Done.{units_are_updated}
use Rattle.cycle_steps.proofs.updating_laws.units_are_updated.Goals as goal

pub returns : goal.returns
returns c = units_are_updated
