use Rattle.std.proofs.Common.{◌≡◌, sym, subst, true}
use Rattle.collector_rows.specs.ControlReady.{is_ready}
use Rattle.collector_rows.proofs.ControlStays.{stays_ready}
use Rattle.collector_rows.proofs.control_spot.ControlSpot.after.Goals as goal

pub returns-clause-ready : goal.returns-clause-ready
returns-clause-ready c =
    subst (λ spot. is_ready c.args.config spot ≡ true) (sym c.next.ensures.row)
    (stays_ready c.args.config c.args.last.phase c.args.last.cset c.args.last.seen c.args.next c.args.self c.args.got c.requires.ready c.requires.fit)
