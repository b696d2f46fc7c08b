use Rattle.cycle_pauses.proofs.Finishing.Finished.{whole_is_pause}
use Rattle.cycle_pauses.proofs.finishing_laws.whole_is_pause.Goals as goal

pub returns : goal.returns
returns c = whole_is_pause
