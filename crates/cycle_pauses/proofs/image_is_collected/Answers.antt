use Rattle.cycle_pauses.proofs.Pauses.{image_is_collected}
use Rattle.cycle_pauses.proofs.image_is_collected.Goals as goal

pub returns : goal.returns
returns c = image_is_collected
