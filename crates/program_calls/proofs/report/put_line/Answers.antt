use Rattle.shen_base.proofs.Stages.{puts_both}
use Rattle.program_calls.proofs.report.put_line.Goals as goal

pub returns : goal.returns
returns g c = puts_both c.put.ensures.put (puts_both c.put_number.ensures.put c.put-2.ensures.put)
