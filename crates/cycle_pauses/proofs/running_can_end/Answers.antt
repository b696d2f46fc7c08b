use Rattle.cycle_pauses.proofs.Pauses.{running_can_end}
use Rattle.cycle_pauses.proofs.running_can_end.Goals as goal

pub returns : goal.returns
returns c = running_can_end
