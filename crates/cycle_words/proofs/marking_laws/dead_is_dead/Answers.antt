use Rattle.cycle_words.proofs.Marking.Dead.{dead_is_dead}
use Rattle.cycle_words.proofs.marking_laws.dead_is_dead.Goals as goal

pub returns : goal.returns
returns c = λ config memory region. dead_is_dead config memory region
