use Rattle.cycle_runs.proofs.Evacuation.Due as due
use Rattle.cycle_runs.proofs.evacuation_laws.images_are_evacuated.Goals as goal

pub returns : goal.returns
returns c = due.images_are_evacuated
