use Rattle.cycle_words.proofs.Evacuation.CopiedOut.{copying_copies}
use Rattle.cycle_words.proofs.evacuation_laws.copying_copies.Goals as goal

pub returns : goal.returns
returns c = copying_copies
