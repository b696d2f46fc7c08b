use Rattle.step_core.proofs.Theorem.FirstFacts.{opening_begins}
use Rattle.step_core.proofs.opening_begins.Goals as goal

pub returns : goal.returns
returns c = opening_begins
