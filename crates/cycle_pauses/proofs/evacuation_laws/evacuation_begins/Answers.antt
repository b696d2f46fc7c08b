use Rattle.cycle_pauses.proofs.Evacuation.Begun.{evacuation_begins}
use Rattle.cycle_pauses.proofs.evacuation_laws.evacuation_begins.Goals as goal

pub returns : goal.returns
returns c = evacuation_begins
