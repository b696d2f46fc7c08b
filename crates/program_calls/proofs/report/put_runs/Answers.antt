use Rattle.shen_base.proofs.Stages.{puts_both}
use Rattle.program_calls.proofs.Reports.{some_text}
use Rattle.program_calls.proofs.report.put_runs.Goals as goal

pub returns : goal.returns
returns g c =
    some_text (puts_both c.put_line.ensures (puts_both c.put_line-2.ensures (puts_both c.put_line-3.ensures (puts_both c.put_line-4.ensures c.put_line-5.ensures))))
