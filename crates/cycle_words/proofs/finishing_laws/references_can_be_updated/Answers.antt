use Rattle.cycle_words.proofs.Finishing.CanUpdate.{references_can_be_updated}
use Rattle.cycle_words.proofs.finishing_laws.references_can_be_updated.Goals as goal

pub returns : goal.returns
returns c = references_can_be_updated
