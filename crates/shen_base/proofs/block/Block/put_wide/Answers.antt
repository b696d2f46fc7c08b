use Rattle.std.proofs.Common.{rules}
use Rattle.shen_base.proofs.Fronts.{rest_whole}
use Rattle.shen_base.proofs.Stages.{puts_same}
use Rattle.shen_base.proofs.block.Block.put_wide.Goals as goal

pub returns-clause-put : goal.returns-clause-put
returns-clause-put g c = puts_same (rest_whole c.spell_wide-from.new.digits _ 39 c.spell_wide-from.result (search rules) c.spell_wide-from.ensures.digits) c.put.ensures.put
