use Rattle.std.proofs.Common.{◌-◌, ◌∙◌, sym, ap, not, arith}
use Rattle.find_play.proofs.RowLaws.{along_absent, along_on}
use Rattle.find_play.proofs.rows.along.Goals as goal

pub returns-then-is_none : goal.returns-then-is_none
returns-then-is_none c =
    sym (along_absent c.args.graph.now.rows c.args.field (c.args.count - c.loop-made.made) c.loop-made.at (c.is_none.ensures ∙ ap not c.if-is_none.true))
    ∙ c.loop-made.invariant

pub loop-made-preserved : goal.loop-made-preserved
loop-made-preserved c = sym (along_on c.args.graph.now.rows c.args.field c.args.count c.loop-made.made c.loop-made.at c.follow-at.result (omega arith) c.follow-at.ensures) ∙ c.loop-made.invariant
