use Rattle.managed_queue.proofs.Few.{few_are_live}
use Rattle.managed_queue.proofs.laws.few_are_live.Goals as goal

pub returns : goal.returns
returns c = few_are_live
