use Rattle.cycle_pauses.proofs.Marking.WhileMarking.{beginning_represents}
use Rattle.cycle_pauses.proofs.marking_laws.beginning_represents.Goals as goal

pub returns : goal.returns
returns c = beginning_represents
