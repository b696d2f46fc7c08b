use Rattle.managed_queue.proofs.Playing.{every_history}
use Rattle.managed_queue.proofs.laws.every_history.Goals as goal

pub returns : goal.returns
returns c = every_history
