use Rattle.std.proofs.Common.{codes}
use Rattle.std.specs.Fmt.{decimal}
use Rattle.shen_base.proofs.Stages.{puts_both, taken_by_new}
use Rattle.trace_text.proofs.AnswerLemmas.{puts_told}
use Rattle.trace_text.proofs.message.write_queue.Goals as goal

pub returns : goal.returns
returns g c =
    c.finish.ensures.ended _ _ (taken_by_new c.new-block.ensures (puts_both
    (puts_told (codes "queue ") (decimal c.args.count) _ c.put_told.ensures
    (puts_told (codes "\nitems ") (decimal c.args.items) _ c.put_told-2.ensures
    (puts_both c.put.ensures.put c.put_wide.ensures.put)))
    c.put-2.ensures.put))
