use Rattle.satb_barrier.proofs.Every.{recording_kept}
use Rattle.satb_barrier.proofs.recording_is_kept.Goals as goal

pub returns : goal.returns
returns c = recording_kept
