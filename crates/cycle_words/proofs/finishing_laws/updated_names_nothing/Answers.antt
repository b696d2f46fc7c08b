use Rattle.cycle_words.proofs.Finishing.FinishingHolds.{updated_names_nothing}
use Rattle.cycle_words.proofs.finishing_laws.updated_names_nothing.Goals as goal

pub returns : goal.returns
returns c = updated_names_nothing
