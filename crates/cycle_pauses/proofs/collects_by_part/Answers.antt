use Rattle.cycle_pauses.proofs.Brief.Collected.{collects_by_part}
use Rattle.cycle_pauses.proofs.collects_by_part.Goals as goal

pub returns : goal.returns
returns c = collects_by_part
