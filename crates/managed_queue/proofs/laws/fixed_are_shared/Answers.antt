use Rattle.managed_queue.proofs.Shares.{fixed_are_shared}
use Rattle.managed_queue.proofs.laws.fixed_are_shared.Goals as goal

pub returns : goal.returns
returns c = fixed_are_shared
