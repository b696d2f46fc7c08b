use Rattle.shen_base.proofs.Stages.{puts_both}
use Rattle.trace_text.proofs.answer.put_reply.Goals as goal

pub returns : goal.returns
returns g c = puts_both (puts_both c.put_number.ensures.put (puts_both c.put.ensures.put c.put_reply_word.ensures)) c.put-2.ensures.put
