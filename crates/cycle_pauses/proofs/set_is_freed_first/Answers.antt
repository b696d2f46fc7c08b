use Rattle.cycle_pauses.proofs.EndedPaused.{set_is_freed_first}
use Rattle.cycle_pauses.proofs.set_is_freed_first.Goals as goal

pub returns : goal.returns
returns c = set_is_freed_first
