use Rattle.unit_part.proofs.Inside.{accesses_inside, stays_ready}
use Rattle.unit_part.proofs.unit_laws.units_stay_inside.Goals as goal

pub returns-clause-inside : goal.returns-clause-inside
returns-clause-inside c = accesses_inside

pub returns-clause-stays : goal.returns-clause-stays
returns-clause-stays c = stays_ready
