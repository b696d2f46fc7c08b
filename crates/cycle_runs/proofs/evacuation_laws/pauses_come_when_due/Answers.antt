use Rattle.cycle_runs.proofs.Evacuation.Due as due
use Rattle.cycle_runs.proofs.evacuation_laws.pauses_come_when_due.Goals as goal

pub returns : goal.returns
returns c = due.pauses_come_when_due
