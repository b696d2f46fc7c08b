use Rattle.cycle_pauses.proofs.Pauses.{representing_can_collect}
use Rattle.cycle_pauses.proofs.representing_can_collect.Goals as goal

pub returns : goal.returns
returns c = representing_can_collect
