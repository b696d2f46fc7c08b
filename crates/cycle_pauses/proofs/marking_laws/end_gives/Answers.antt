use Rattle.cycle_pauses.proofs.Marking.WhileMarking.{end_gives}
use Rattle.cycle_pauses.proofs.marking_laws.end_gives.Goals as goal

pub returns : goal.returns
returns c = end_gives
