use Rattle.heap_machines.proofs.Rested.{can_begin_again}
use Rattle.heap_machines.proofs.reopening_laws.rest_can_begin.Goals as goal

pub returns : goal.returns
returns call c start g begins events rest counts made = can_begin_again c (record { start = start; graph = g; begins = begins; events = events }) rest counts made
