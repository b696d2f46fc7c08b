use Rattle.managed_queue.proofs.Table.{command_is_next}
use Rattle.managed_queue.proofs.spot.Spot.next.Goals as goal

pub returns-clause-table : goal.returns-clause-table
returns-clause-table c = rw c.command.ensures (command_is_next _ _)
