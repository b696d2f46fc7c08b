use Rattle.shen_base.proofs.Stages.{puts_both}
use Rattle.trace_text.proofs.message.put_told.Goals as goal

pub returns : goal.returns
returns g c = puts_both c.put.ensures.put c.put_number.ensures.put
