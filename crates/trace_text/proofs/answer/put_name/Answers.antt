use Rattle.shen_base.proofs.Stages.{puts_both}
use Rattle.trace_text.proofs.answer.put_name.Goals as goal

pub returns : goal.returns
returns g c = puts_both (puts_both c.put_number.ensures.put c.put.ensures.put) c.put_number-2.ensures.put
