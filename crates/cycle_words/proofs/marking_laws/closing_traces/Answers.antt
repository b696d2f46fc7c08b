use Rattle.cycle_words.proofs.Marking.Closed.{are_closed}
use Rattle.cycle_words.proofs.marking_laws.closing_traces.Goals as goal

pub returns : goal.returns
returns c = λ config memory block owner promises graph holds marking. are_closed config memory block owner promises graph holds marking
