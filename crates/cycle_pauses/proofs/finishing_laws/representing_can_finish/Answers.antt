use Rattle.cycle_pauses.proofs.Finishing.CanFinish.{representing_can_finish}
use Rattle.cycle_pauses.proofs.finishing_laws.representing_can_finish.Goals as goal

pub returns : goal.returns
returns c = representing_can_finish
