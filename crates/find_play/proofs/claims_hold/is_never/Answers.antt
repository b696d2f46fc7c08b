use Rattle.std.proofs.Common.{sym, ◌∙◌}
use Rattle.shen_graph.specs.Noting.{seen}
use Rattle.find_play.proofs.Firsts.{never_broken, never_on}
use Rattle.find_play.proofs.claims_hold.is_never.Goals as goal

pub returns-then-fits : goal.returns-then-fits
returns-then-fits c = never_broken c.args.wanted c.args.history.now.list c.loop-at.at (seen c.entry.result) c.entry.ensures (sym c.fits.ensures ∙ c.if-fits.true)

pub loop-at-preserved : goal.loop-at-preserved
loop-at-preserved c = never_on c.args.wanted c.args.history.now.list c.loop-at.at (seen c.entry.result) _ c.entry.ensures (sym c.fits.ensures ∙ c.if-fits.false) c.loop-at.invariant
