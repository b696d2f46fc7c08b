use Rattle.std.specs.Fmt.{decimal}
use Rattle.shen_base.proofs.Stages.{taken_by_new}
use Rattle.trace_text.proofs.AnswerLemmas.{puts_told}
use Rattle.trace_text.proofs.message.write_told.Goals as goal

pub returns : goal.returns
returns g c =
    c.finish.ensures.ended _ _ (taken_by_new c.new-block.ensures (puts_told c.args.label.now (decimal c.args.number) _ c.put_told.ensures c.put.ensures.put))
