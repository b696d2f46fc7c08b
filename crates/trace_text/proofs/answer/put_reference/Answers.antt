use Rattle.std.proofs.Common.{◌∷◌, sym, ap}
use Rattle.shen_base.proofs.Stages.{puts_both, puts_same}
use Rattle.trace_reading.specs.Spelling.{space}
use Rattle.trace_text.specs.Answer.{reference_word}
use Rattle.trace_text.proofs.answer.put_reference.Goals as goal

pub returns-in-Some : goal.returns-in-Some
returns-in-Some g c = puts_same (ap (λ reference. space ∷ reference_word reference) (sym c.in-Some.is)) (puts_both c.put.ensures.put c.put_name.ensures)

pub returns-in-None : goal.returns-in-None
returns-in-None g c = puts_same (ap (λ reference. space ∷ reference_word reference) (sym c.in-None.is)) c.put-in-None.ensures.put
