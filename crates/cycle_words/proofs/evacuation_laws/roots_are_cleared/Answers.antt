use Rattle.cycle_words.proofs.Evacuation.Clearing.{roots_are_cleared}
use Rattle.cycle_words.proofs.evacuation_laws.roots_are_cleared.Goals as goal

pub returns : goal.returns
returns c = roots_are_cleared
