use Rattle.cycle_steps.proofs.Chained as chained
use Rattle.cycle_steps.proofs.marking_laws.marking_comes.Goals as goal

pub returns : goal.returns
returns c = chained.marking_comes
