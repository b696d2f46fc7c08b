use Rattle.cycle_pauses.proofs.Evacuation.Begun.{evacuation_alone_represents}
use Rattle.cycle_pauses.proofs.evacuation_laws.evacuation_alone_represents.Goals as goal

pub returns : goal.returns
returns c = evacuation_alone_represents
