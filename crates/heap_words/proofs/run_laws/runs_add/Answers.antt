use Rattle.heap_words.proofs.Laws.{runs_add}
use Rattle.heap_words.proofs.run_laws.runs_add.Goals as goal

pub returns : goal.returns
returns g c = λ kind. runs_add kind
