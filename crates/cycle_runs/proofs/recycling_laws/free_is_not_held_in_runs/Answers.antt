use Rattle.cycle_runs.proofs.Recycling.Runs.{free_is_not_held_in_runs}
use Rattle.cycle_runs.proofs.recycling_laws.free_is_not_held_in_runs.Goals as goal

pub returns : goal.returns
returns c = free_is_not_held_in_runs
