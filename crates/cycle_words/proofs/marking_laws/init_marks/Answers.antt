use Rattle.cycle_words.proofs.Marking.Begun.{init_marks}
use Rattle.cycle_words.proofs.marking_laws.init_marks.Goals as goal

pub returns : goal.returns
returns c = init_marks
