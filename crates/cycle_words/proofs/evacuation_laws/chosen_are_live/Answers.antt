use Rattle.cycle_words.proofs.Evacuation.CanCopy.{chosen_are_live}
use Rattle.cycle_words.proofs.evacuation_laws.chosen_are_live.Goals as goal

pub returns : goal.returns
returns c = chosen_are_live
