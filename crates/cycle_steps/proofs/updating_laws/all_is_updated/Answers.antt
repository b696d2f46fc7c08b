use Rattle.cycle_steps.proofs.Updating.Done.{all_is_updated}
use Rattle.cycle_steps.proofs.updating_laws.all_is_updated.Goals as goal

pub returns : goal.returns
returns c = all_is_updated
