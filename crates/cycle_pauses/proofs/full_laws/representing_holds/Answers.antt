use Rattle.cycle_pauses.proofs.Full.Pauses.{representing_holds}
use Rattle.cycle_pauses.proofs.full_laws.representing_holds.Goals as goal

pub returns : goal.returns
returns c = representing_holds
