use Rattle.cycle_pauses.proofs.Full.Pauses.{full_is_pause}
use Rattle.cycle_pauses.proofs.full_laws.full_is_pause.Goals as goal

pub returns : goal.returns
returns c = full_is_pause
