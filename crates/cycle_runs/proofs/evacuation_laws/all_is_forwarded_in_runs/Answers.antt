use Rattle.cycle_runs.proofs.Evacuation.Runs as runs
use Rattle.cycle_runs.proofs.evacuation_laws.all_is_forwarded_in_runs.Goals as goal

pub returns : goal.returns
returns c = runs.all_is_forwarded_in_runs
