use Rattle.cycle_pauses.proofs.Full.Pauses.{is_full}
use Rattle.cycle_pauses.proofs.full_laws.image_is_full.Goals as goal

pub returns : goal.returns
returns c = is_full
