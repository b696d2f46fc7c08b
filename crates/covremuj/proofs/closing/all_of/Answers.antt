use Rattle.std.proofs.Common.{◌∙◌}
use Rattle.covremuj.proofs.HeldLists.{set_same}
use Rattle.covremuj.proofs.closing.all_of.Goals as goal

pub returns-then-not-is_of : goal.returns-then-not-is_of
returns-then-not-is_of c =
    let loop = c.loop-at in
    set_same loop.handles loop.at c.index-handles-at.result c.is_of.new.handle c.is_of.ensures ∙ loop.invariant

pub loop-at-preserved : goal.loop-at-preserved
loop-at-preserved c =
    let loop = c.loop-at in
    set_same loop.handles loop.at c.index-handles-at.result c.is_of.new.handle c.is_of.ensures ∙ loop.invariant
