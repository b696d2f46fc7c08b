use Rattle.cycle_words.proofs.Evacuation.CanBegin.{marked_can_begin}
use Rattle.cycle_words.proofs.evacuation_laws.marked_can_begin.Goals as goal

pub returns : goal.returns
returns c = marked_can_begin
