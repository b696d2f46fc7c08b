use Rattle.std.proofs.Common.{refl, arith}
use Rattle.trace_text.specs.Answer.{reply_line}
use Rattle.trace_text.proofs.AnswerLemmas.{puts_next, puts_all}
use Rattle.trace_text.proofs.answer.put_replies_of.Goals as goal

pub loop-reply-preserved : goal.loop-reply-preserved
loop-reply-preserved g c =
    puts_next (reply_line c.args.thread) c.args.replies.now c.loop-reply.reply-index _ _
    (omega arith) refl c.loop-reply.invariant c.put_reply.ensures

pub returns : goal.returns
returns g c = puts_all (reply_line c.args.thread) c.args.replies.now c.loop-reply.reply-index c.loop-reply-test.false c.loop-reply.invariant
