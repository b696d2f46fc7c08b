use Rattle.std.proofs.Common.{codes}
use Rattle.std.specs.Fmt.{decimal}
use Rattle.shen_base.proofs.Stages.{puts_both, puts_same, taken_by_new}
use Rattle.trace_text.proofs.AnswerLemmas.{puts_told}
use Rattle.trace_text.proofs.message.write_bad_line.Goals as goal

pub returns : goal.returns
returns g c =
    c.finish.ensures.ended _ _ (taken_by_new c.new-block.ensures (puts_told (codes "bad line ") (decimal c.args.line) _ c.put_told.ensures
    (puts_both c.put.ensures.put (puts_both (puts_same c.text.ensures c.put-2.ensures.put) c.put-3.ensures.put))))
