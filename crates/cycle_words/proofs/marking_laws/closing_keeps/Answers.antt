use Rattle.cycle_words.proofs.Marking.Closed.{closed_holds, closed_through}
use Rattle.cycle_words.proofs.marking_laws.closing_keeps.Goals as goal

pub returns : goal.returns
returns c = λ config memory block owner promises graph holds marking. (closed_holds config memory block owner promises graph holds marking, closed_through config memory block owner promises graph holds marking)
