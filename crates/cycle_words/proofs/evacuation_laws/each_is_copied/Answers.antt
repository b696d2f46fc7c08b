use Rattle.cycle_words.proofs.Evacuation.CopiedInTurn.{each_is_copied}
use Rattle.cycle_words.proofs.evacuation_laws.each_is_copied.Goals as goal

pub returns : goal.returns
returns c = each_is_copied
