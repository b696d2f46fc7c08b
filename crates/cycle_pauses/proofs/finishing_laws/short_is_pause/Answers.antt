use Rattle.cycle_pauses.proofs.Finishing.Finished.{short_is_pause}
use Rattle.cycle_pauses.proofs.finishing_laws.short_is_pause.Goals as goal

pub returns : goal.returns
returns c = short_is_pause
