use Rattle.collector_rows.proofs.ControlStays.{accesses_inside, stays_ready}
use Rattle.collector_rows.proofs.control_laws.control_stays_inside.Goals as goal

pub returns-clause-inside : goal.returns-clause-inside
returns-clause-inside c = accesses_inside

pub returns-clause-stays : goal.returns-clause-stays
returns-clause-stays c = stays_ready
