use Rattle.cycle_words.proofs.Evacuation.Taken.{fronts_are_taken}
use Rattle.cycle_words.proofs.evacuation_laws.choice_is_taken.Goals as goal

pub returns : goal.returns
returns c = fronts_are_taken
