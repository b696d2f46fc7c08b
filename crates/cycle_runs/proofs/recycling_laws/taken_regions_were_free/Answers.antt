use Rattle.cycle_runs.proofs.Recycling.Taken.{taken_regions_were_free}
use Rattle.cycle_runs.proofs.recycling_laws.taken_regions_were_free.Goals as goal

pub returns : goal.returns
returns c = taken_regions_were_free
