use Rattle.handshake.proofs.Obeying.{rows_obey}
use Rattle.handshake.proofs.laws.rows_obey.Goals as goal

pub returns : goal.returns
returns c = rows_obey
