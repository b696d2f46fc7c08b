use Rattle.cycle_pauses.proofs.Full.Holding.{representing_is_sized}
use Rattle.cycle_pauses.proofs.full_laws.representing_is_sized.Goals as goal

pub returns : goal.returns
returns c = representing_is_sized
