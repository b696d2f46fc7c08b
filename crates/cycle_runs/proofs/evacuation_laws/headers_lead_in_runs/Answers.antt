use Rattle.cycle_runs.proofs.Evacuation.Runs as runs
use Rattle.cycle_runs.proofs.evacuation_laws.headers_lead_in_runs.Goals as goal

pub returns : goal.returns
returns c = runs.headers_lead_in_runs
