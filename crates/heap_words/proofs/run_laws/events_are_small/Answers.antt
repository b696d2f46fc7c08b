use Rattle.heap_words.proofs.Laws.{events_are_small}
use Rattle.heap_words.proofs.run_laws.events_are_small.Goals as goal

pub returns : goal.returns
returns g c = λ kind. events_are_small kind
