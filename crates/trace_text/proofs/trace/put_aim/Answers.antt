use Rattle.std.proofs.Common.{◌∷◌, ◌∙◌, sym, ap}
use Rattle.shen_base.proofs.Stages.{puts_both, puts_same}
use Rattle.trace_reading.specs.Spelling.{aim}
use Rattle.trace_text.proofs.trace.put_aim.Goals as goal

pub returns-in-Steps : goal.returns-in-Steps
returns-in-Steps g c = puts_same (ap aim (sym c.in-Steps.is)) (puts_both c.put.ensures.put c.put_number.ensures.put)

pub returns-in-Until : goal.returns-in-Until
returns-in-Until g c =
    puts_same (ap (λ code. 64 ∷ code) c.code.ensures ∙ ap aim (sym c.in-Until.is)) (puts_both c.put-in-Until.ensures.put c.put-in-Until-2.ensures.put)

pub returns-in-Replies : goal.returns-in-Replies
returns-in-Replies g c = puts_same (ap aim (sym c.in-Replies.is)) (puts_both c.put-in-Replies.ensures.put c.put_number-in-Replies.ensures.put)
