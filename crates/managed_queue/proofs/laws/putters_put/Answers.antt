use Rattle.managed_queue.proofs.Driven.{putters_put}
use Rattle.managed_queue.proofs.laws.putters_put.Goals as goal

pub returns : goal.returns
returns c = putters_put
