use Rattle.cycle_pauses.proofs.Updating.Freeing.{set_is_freed}
use Rattle.cycle_pauses.proofs.updating_laws.set_is_freed.Goals as goal

pub returns : goal.returns
returns c = set_is_freed
