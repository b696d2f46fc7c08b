use Rattle.cycle_words.proofs.Evacuation.Fits.{room_is_found}
use Rattle.cycle_words.proofs.evacuation_laws.room_is_found.Goals as goal

pub returns : goal.returns
returns c = room_is_found
