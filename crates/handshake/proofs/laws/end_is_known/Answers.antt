use Rattle.handshake.proofs.Ending.{known_run}
use Rattle.handshake.proofs.laws.end_is_known.Goals as goal

pub returns : goal.returns
returns g c = known_run
