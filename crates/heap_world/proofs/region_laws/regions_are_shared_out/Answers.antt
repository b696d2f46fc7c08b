use Rattle.heap_world.proofs.SharedOut.{shared_out}
use Rattle.heap_world.proofs.region_laws.regions_are_shared_out.Goals as goal

pub returns : goal.returns
returns c = shared_out
