use Rattle.cycle_words.proofs.Evacuation.EndedCollects.{evacuation_collects}
use Rattle.cycle_words.proofs.evacuation_laws.evacuation_collects.Goals as goal

pub returns : goal.returns
returns c = evacuation_collects
