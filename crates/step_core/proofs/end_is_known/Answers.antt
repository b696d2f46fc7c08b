use Rattle.step_core.proofs.Handshake.Ending.{run_ends}
use Rattle.step_core.proofs.end_is_known.Goals as goal

pub returns : goal.returns
returns c = run_ends
