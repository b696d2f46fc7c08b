use Rattle.cycle_words.proofs.Evacuation.CanCopy.{live_is_marked}
use Rattle.cycle_words.proofs.evacuation_laws.live_is_marked.Goals as goal

pub returns : goal.returns
returns c = live_is_marked
