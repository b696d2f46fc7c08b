use Rattle.cycle_words.proofs.Finishing.CanFinish.{collecting_can_finish}
use Rattle.cycle_words.proofs.finishing_laws.collecting_can_finish.Goals as goal

pub returns : goal.returns
returns c = collecting_can_finish
