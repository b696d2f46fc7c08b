use Rattle.cycle_pauses.proofs.Updating.Ending.{updating_ends}
use Rattle.cycle_pauses.proofs.updating_laws.updating_ends.Goals as goal

pub returns : goal.returns
returns c = updating_ends
