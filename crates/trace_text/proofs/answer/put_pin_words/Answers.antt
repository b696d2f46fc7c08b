use Rattle.std.proofs.Common.{◌∷◌, ap, arith}
use Rattle.shen_graph.specs.GraphText.{pin_of}
use Rattle.shen_base.proofs.Stages.{puts_same}
use Rattle.trace_reading.specs.Spelling.{space}
use Rattle.trace_text.specs.Answer.{reference_word}
use Rattle.trace_text.proofs.AnswerLemmas.{puts_next_number, pin_words_are}
use Rattle.trace_text.proofs.answer.put_pin_words.Goals as goal

pub loop-slot-preserved : goal.loop-slot-preserved
loop-slot-preserved g c =
    puts_next_number (λ slot. space ∷ reference_word (pin_of c.args.graph.now c.args.thread slot)) 0 c.loop-slot.slot c.loop-slot.slot
    (omega arith) c.loop-slot.invariant (puts_same (ap (λ reference. space ∷ reference_word reference) c.pin_at.ensures) c.put_reference.ensures)

pub returns : goal.returns
returns g c = puts_same (pin_words_are (pin_of c.args.graph.now c.args.thread) c.loop-slot.slot (omega arith)) c.loop-slot.invariant
