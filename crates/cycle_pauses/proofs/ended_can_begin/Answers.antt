use Rattle.cycle_pauses.proofs.Pauses.{ended_can_begin}
use Rattle.cycle_pauses.proofs.ended_can_begin.Goals as goal

pub returns : goal.returns
returns c = ended_can_begin
