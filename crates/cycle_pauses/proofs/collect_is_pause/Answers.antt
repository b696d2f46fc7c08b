use Rattle.cycle_pauses.proofs.Pauses.{collect_is_pause}
use Rattle.cycle_pauses.proofs.collect_is_pause.Goals as goal

pub returns : goal.returns
returns c = collect_is_pause
