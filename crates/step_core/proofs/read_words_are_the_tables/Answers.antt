use Rattle.step_core.proofs.Theorem.EveryList.{run_aims}
use Rattle.step_core.proofs.read_words_are_the_tables.Goals as goal

pub returns : goal.returns
returns c = λ change law c stage graph begins events number actor control actor_there machine_is. (run_aims change law c stage graph begins events number actor control actor_there machine_is).1
