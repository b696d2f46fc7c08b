use Rattle.cycle_words.proofs.Marking.Ended.{ended_holds, ended_through}
use Rattle.cycle_words.proofs.marking_laws.end_keeps.Goals as goal

pub returns : goal.returns
returns c = λ config memory block owner promises graph holds marking seats.
    (ended_holds config memory block owner promises graph holds marking seats, ended_through config memory block owner promises graph holds marking seats)
