use Rattle.cycle_runs.proofs.Marking.Runs as runs
use Rattle.cycle_runs.proofs.marking_laws.marking_comes_in_runs.Goals as goal

pub returns : goal.returns
returns c = runs.marking_comes_in_runs
