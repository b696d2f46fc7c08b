use Rattle.cycle_words.proofs.Finishing.Causes.{serving_serves_all}
use Rattle.cycle_words.proofs.finishing_laws.serving_serves_all.Goals as goal

pub returns : goal.returns
returns c = serving_serves_all
