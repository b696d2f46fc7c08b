use Rattle.cycle_pauses.proofs.Finishing.CopyingKeeps.{copying_keeps}
use Rattle.cycle_pauses.proofs.finishing_laws.copying_keeps.Goals as goal

pub returns : goal.returns
returns c = copying_keeps
