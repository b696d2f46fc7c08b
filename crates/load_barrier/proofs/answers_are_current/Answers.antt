use Rattle.load_barrier.proofs.Every.{answers_current}
use Rattle.load_barrier.proofs.answers_are_current.Goals as goal

pub returns : goal.returns
returns c = answers_current
