use Rattle.cycle_pauses.proofs.Full.Pauses.{from_copies}
use Rattle.cycle_pauses.proofs.full_laws.full_from_copies.Goals as goal

pub returns : goal.returns
returns c = from_copies
