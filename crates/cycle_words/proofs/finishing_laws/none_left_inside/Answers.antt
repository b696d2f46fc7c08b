use Rattle.cycle_words.proofs.Finishing.Emptied.{none_left_inside}
use Rattle.cycle_words.proofs.finishing_laws.none_left_inside.Goals as goal

pub returns : goal.returns
returns c = none_left_inside
