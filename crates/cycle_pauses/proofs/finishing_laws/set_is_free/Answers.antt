use Rattle.cycle_pauses.proofs.Finishing.Finished.{set_is_free}
use Rattle.cycle_pauses.proofs.finishing_laws.set_is_free.Goals as goal

pub returns : goal.returns
returns c = set_is_free
