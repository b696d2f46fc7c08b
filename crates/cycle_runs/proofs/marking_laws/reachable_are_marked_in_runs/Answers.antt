use Rattle.cycle_runs.proofs.Marking.Runs as runs
use Rattle.cycle_runs.proofs.marking_laws.reachable_are_marked_in_runs.Goals as goal

pub returns : goal.returns
returns c = runs.reachable_are_marked_in_runs
