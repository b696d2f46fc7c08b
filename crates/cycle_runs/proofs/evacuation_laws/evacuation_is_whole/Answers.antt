use Rattle.cycle_runs.proofs.Evacuation.Due as due
use Rattle.cycle_runs.proofs.evacuation_laws.evacuation_is_whole.Goals as goal

pub returns : goal.returns
returns c = due.evacuation_is_whole
