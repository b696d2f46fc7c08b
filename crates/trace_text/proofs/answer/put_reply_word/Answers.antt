use Rattle.std.proofs.Common.{sym, ap}
use Rattle.shen_base.proofs.Stages.{puts_both, puts_same}
use Rattle.trace_text.specs.Answer.{reply_word}
use Rattle.trace_text.proofs.answer.put_reply_word.Goals as goal

pub returns-in-Ref : goal.returns-in-Ref
returns-in-Ref g c = puts_same (ap reply_word (sym c.in-Ref.is)) c.put_name.ensures

pub returns-in-Null : goal.returns-in-Null
returns-in-Null g c = puts_same (ap reply_word (sym c.in-Null.is)) c.put.ensures.put

pub returns-in-Ok : goal.returns-in-Ok
returns-in-Ok g c = puts_same (ap reply_word (sym c.in-Ok.is)) c.put-in-Ok.ensures.put

pub returns-in-Yes : goal.returns-in-Yes
returns-in-Yes g c = puts_same (ap reply_word (sym c.in-Yes.is)) c.put-in-Yes.ensures.put

pub returns-in-No : goal.returns-in-No
returns-in-No g c = puts_same (ap reply_word (sym c.in-No.is)) c.put-in-No.ensures.put

pub returns-in-Number : goal.returns-in-Number
returns-in-Number g c = puts_same (ap reply_word (sym c.in-Number.is)) c.put_number.ensures.put

pub returns-in-Bad : goal.returns-in-Bad
returns-in-Bad g c = puts_same (ap reply_word (sym c.in-Bad.is)) c.put-in-Bad.ensures.put

pub returns-in-Full : goal.returns-in-Full
returns-in-Full g c = puts_same (ap reply_word (sym c.in-Full.is)) c.put-in-Full.ensures.put

pub returns-in-At : goal.returns-in-At
returns-in-At g c = puts_same (ap reply_word (sym c.in-At.is)) (puts_both c.put-in-At.ensures.put c.put_number-in-At.ensures.put)
