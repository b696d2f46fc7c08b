use Rattle.cycle_pauses.proofs.Updating.Beginning.{updating_begins}
use Rattle.cycle_pauses.proofs.updating_laws.updating_begins.Goals as goal

pub returns : goal.returns
returns c = updating_begins
