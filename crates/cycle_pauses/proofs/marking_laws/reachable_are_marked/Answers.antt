use Rattle.cycle_pauses.proofs.Marking.WhileMarking.{reachable_are_marked}
use Rattle.cycle_pauses.proofs.marking_laws.reachable_are_marked.Goals as goal

pub returns : goal.returns
returns c = reachable_are_marked
