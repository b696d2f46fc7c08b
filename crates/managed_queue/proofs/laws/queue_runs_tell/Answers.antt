use Rattle.managed_queue.proofs.Told.{queue_runs_tell}
use Rattle.managed_queue.proofs.laws.queue_runs_tell.Goals as goal

pub returns : goal.returns
returns c = queue_runs_tell
