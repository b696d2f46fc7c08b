use Rattle.cycle_runs.proofs.Evacuation.Runs as runs
use Rattle.cycle_runs.proofs.evacuation_laws.copies_are_spared.Goals as goal

pub returns : goal.returns
returns c = runs.copies_are_spared
