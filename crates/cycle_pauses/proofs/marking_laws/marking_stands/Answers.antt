use Rattle.cycle_pauses.proofs.Marking.WhileMarking.{marking_stands}
use Rattle.cycle_pauses.proofs.marking_laws.marking_stands.Goals as goal

pub returns : goal.returns
returns c = marking_stands
