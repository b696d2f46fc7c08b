use Rattle.cycle_runs.proofs.Evacuation.OneEvent as one
use Rattle.cycle_runs.proofs.evacuation_laws.events_spare_copies.Goals as goal

pub returns : goal.returns
returns c = one.events_spare_copies
