use Rattle.cycle_pauses.proofs.Images.{table_is_collected}
use Rattle.cycle_pauses.proofs.table_is_collected.Goals as goal

pub returns : goal.returns
returns c = table_is_collected
