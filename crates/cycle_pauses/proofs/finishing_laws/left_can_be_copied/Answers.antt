use Rattle.cycle_pauses.proofs.Finishing.CopyingKeeps.{left_can_be_copied}
use Rattle.cycle_pauses.proofs.finishing_laws.left_can_be_copied.Goals as goal

pub returns : goal.returns
returns c = left_can_be_copied
