use Rattle.table_heap.proofs.StepCounts as counts
use Rattle.table_heap.proofs.laws.steps_are_events.Goals as goal

pub returns : goal.returns
returns c = counts.steps_are_events
