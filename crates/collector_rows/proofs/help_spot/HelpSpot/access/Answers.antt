use Rattle.std.proofs.Common.{arith}
use Rattle.std.proofs.lemmas.Bool.{and_parts}
use Rattle.shen_graph.proofs.Bools.{false_from_flip}
use Rattle.handshake.specs.EnterRows.{is_ended as is_entered}
use Rattle.unit_part.specs.Rows as units
use Rattle.collector_rows.specs.declared.help_spot.HelpSpot.TheVariants.{Entering, Working}
use Rattle.collector_rows.proofs.HelperStays.{fits_at}
use Rattle.collector_rows.proofs.help_spot.HelpSpot.access.Goals as goal

pub access-requires-clause-seat : goal.access-requires-clause-seat
access-requires-clause-seat c = c.requires.seat

pub access-requires-clause-busy : goal.access-requires-clause-busy
access-requires-clause-busy c = false_from_flip (is_entered c.in-Entering.at) (fits_at c.args.config c.args.seat c.args.self (Entering c.in-Entering.at) c.in-Entering.is c.requires.fits)

pub access-requires-in-Working-clause-seat : goal.access-requires-in-Working-clause-seat
access-requires-in-Working-clause-seat c = let seat_below = c.requires.seat in omega (arith, seat_below)

pub leave_access-requires : goal.leave_access-requires
leave_access-requires c = c.requires.seat

pub access-requires-in-Working-clause-ready : goal.access-requires-in-Working-clause-ready
access-requires-in-Working-clause-ready c = (and_parts _ _ (fits_at c.args.config c.args.seat c.args.self (Working c.in-Working.at) c.in-Working.is c.requires.fits)).0

pub access-requires-in-Working-clause-busy : goal.access-requires-in-Working-clause-busy
access-requires-in-Working-clause-busy c = false_from_flip (units.is_ended c.in-Working.at) (and_parts _ _ (fits_at c.args.config c.args.seat c.args.self (Working c.in-Working.at) c.in-Working.is c.requires.fits)).1
