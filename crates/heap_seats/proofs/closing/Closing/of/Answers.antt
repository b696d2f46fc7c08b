use Rattle.heap_seats.proofs.Joined.{joined_one}
use Rattle.heap_seats.proofs.closing.Closing.of.Goals as goal

pub invariant_of-result : goal.invariant_of-result
invariant_of-result c = record { fits = c.args.seat.fits }

pub returns-clause-given : goal.returns-clause-given
returns-clause-given c = joined_one c.args.seat
