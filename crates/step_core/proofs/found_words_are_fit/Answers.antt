use Rattle.step_core.proofs.Theorem.EveryList.{found_fit}
use Rattle.step_core.proofs.found_words_are_fit.Goals as goal

pub returns : goal.returns
returns c = found_fit
