use Rattle.find_play.proofs.SaidLines.{line_said}
use Rattle.find_play.proofs.SaidAgain.{line_again}
use Rattle.find_play.proofs.laws.lines_are_of_their_words.Goals as goal

pub returns-clause-said : goal.returns-clause-said
returns-clause-said c = line_said

pub returns-clause-read : goal.returns-clause-read
returns-clause-read c = line_again
