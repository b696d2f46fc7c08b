use Rattle.shen_base.proofs.Stages.{puts_both, puts_same, taken_by_new}
use Rattle.program_calls.proofs.report.write_bad_line.Goals as goal

pub returns : goal.returns
returns g c =
    c.finish.ensures.ended _ _ (taken_by_new c.new-block.ensures (puts_both c.put.ensures.put (puts_both c.put_number.ensures.put
    (puts_both c.put-2.ensures.put (puts_both (puts_same c.text.ensures c.put-3.ensures.put) c.put-4.ensures.put)))))
