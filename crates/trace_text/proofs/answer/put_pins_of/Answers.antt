use Rattle.shen_graph.specs.GraphText.{pin_of}
use Rattle.shen_base.proofs.Stages.{puts_both, puts_same}
use Rattle.trace_text.proofs.AnswerLemmas.{pins_line_is}
use Rattle.trace_text.proofs.answer.put_pins_of.Goals as goal

pub returns : goal.returns
returns g c =
    puts_same (pins_line_is c.args.thread (pin_of c.args.graph.now c.args.thread))
    (puts_both (puts_both (puts_both c.put.ensures.put c.put_number.ensures.put) c.put_pin_words.ensures) c.put-2.ensures.put)
