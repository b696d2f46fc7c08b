use Rattle.shen_base.proofs.Stages.{puts_both}
use Rattle.trace_text.proofs.history.put_entry.Goals as goal

pub returns : goal.returns
returns g c =
    puts_both c.put_number.ensures.put
    (puts_both c.put.ensures.put
    (puts_both c.put_command.ensures
    (puts_both c.put-2.ensures.put (puts_both c.put_reply_word.ensures c.put-3.ensures.put))))
