use Rattle.std.proofs.Common.{◌≡◌, sym, subst, true}
use Rattle.collector_rows.specs.HelperReady.{spot_fits}
use Rattle.collector_rows.proofs.HelperStays.{spot_stays}
use Rattle.collector_rows.proofs.help_spot.HelpSpot.after.Goals as goal

pub returns-clause-fits : goal.returns-clause-fits
returns-clause-fits c =
    subst (λ spot. spot_fits c.args.config c.args.seat spot ≡ true) (sym c.next.ensures.row)
    (spot_stays c.args.config c.args.seat c.args.self c.args.got c.requires.fits c.requires.fit)
