use Rattle.cycle_pauses.proofs.EndedPaused.{ended_is_paused}
use Rattle.cycle_pauses.proofs.ended_is_paused.Goals as goal

pub returns : goal.returns
returns c = ended_is_paused
