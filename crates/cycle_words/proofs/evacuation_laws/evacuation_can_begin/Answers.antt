use Rattle.cycle_words.proofs.Evacuation.CanBegin.{evacuation_can_begin}
use Rattle.cycle_words.proofs.evacuation_laws.evacuation_can_begin.Goals as goal

pub returns : goal.returns
returns c = evacuation_can_begin
