use Rattle.cycle_steps.proofs.Updating.Following.{following_steps}
use Rattle.cycle_steps.proofs.updating_laws.following_steps.Goals as goal

pub returns : goal.returns
returns c = following_steps
