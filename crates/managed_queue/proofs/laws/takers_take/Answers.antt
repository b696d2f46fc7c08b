use Rattle.managed_queue.proofs.Driven.{takers_take}
use Rattle.managed_queue.proofs.laws.takers_take.Goals as goal

pub returns : goal.returns
returns c = takers_take
