use Rattle.cycle_steps.proofs.Parts.{recording_steps}
use Rattle.cycle_steps.proofs.marking_laws.recording_steps.Goals as goal

pub returns : goal.returns
returns c = recording_steps
