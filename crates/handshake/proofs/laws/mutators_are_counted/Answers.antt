use Rattle.handshake.proofs.Counting.{counted_run, left_some, none_run}
use Rattle.handshake.proofs.laws.mutators_are_counted.Goals as goal

pub returns-clause-counted : goal.returns-clause-counted
returns-clause-counted g c = counted_run

pub returns-clause-found : goal.returns-clause-found
returns-clause-found g c = left_some

pub returns-clause-none_stays : goal.returns-clause-none_stays
returns-clause-none_stays g c = none_run
