use Rattle.cycle_pauses.proofs.Updating.Unpinned.{none_is_pinned}
use Rattle.cycle_pauses.proofs.updating_laws.none_is_pinned.Goals as goal

pub returns : goal.returns
returns c = none_is_pinned
