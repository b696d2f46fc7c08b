use Rattle.std.proofs.Common.{codes}
use Rattle.std.specs.Fmt.{decimal}
use Rattle.shen_base.proofs.Stages.{taken_by_new}
use Rattle.trace_text.proofs.AnswerLemmas.{puts_told}
use Rattle.trace_text.proofs.message.write_unfinished.Goals as goal

pub returns : goal.returns
returns g c =
    c.finish.ensures.ended _ _ (taken_by_new c.new-block.ensures (puts_told (codes "unfinished after ") (decimal c.args.steps) _ c.put_told.ensures c.put.ensures.put))
