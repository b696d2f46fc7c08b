use Rattle.cycle_words.proofs.Evacuation.CanCopy.{object_can_be_copied}
use Rattle.cycle_words.proofs.evacuation_laws.object_can_be_copied.Goals as goal

pub returns : goal.returns
returns c = object_can_be_copied
