use Rattle.cycle_pauses.proofs.Full.Pauses.{is_whole}
use Rattle.cycle_pauses.proofs.full_laws.table_is_full.Goals as goal

pub returns : goal.returns
returns c = is_whole
