use Rattle.std.proofs.Common.{◌≡◌, true, false, rules}
use Rattle.shen_base.proofs.Stages.{taken_still, writes_all, writes_front}
use Rattle.shen_base.proofs.block.Block.finish.Goals as goal

pub returns-then-block-clause-ended : goal.returns-then-block-clause-ended
returns-then-block-clause-ended g c outlet text taken =
    let failed : c.send.new.self.failed ≡ true = search rules in
    writes_front _ _ outlet text failed (taken_still c.send.ensures.sent taken)

pub returns-else-block-clause-ended : goal.returns-else-block-clause-ended
returns-else-block-clause-ended g c outlet text taken =
    let not_failed : c.send.new.self.failed ≡ false = search rules in
    writes_all _ outlet text not_failed c.send.ensures.emptied (taken_still c.send.ensures.sent taken)
