use Rattle.std.proofs.Common.{◌+◌, length, arith}
use Rattle.shen_graph.specs.GraphText.{pin_of}
use Rattle.trace_text.specs.Answer.{pins_line}
use Rattle.trace_text.proofs.AnswerLemmas.{puts_next_number, puts_each_number}
use Rattle.trace_text.proofs.answer.put_all_pins.Goals as goal

pub loop-mutator-preserved : goal.loop-mutator-preserved
loop-mutator-preserved g c =
    puts_next_number (λ thread. pins_line thread (pin_of c.args.graph.now thread)) 1 c.loop-mutator.mutator (c.loop-mutator.mutator + 1)
    (omega arith) c.loop-mutator.invariant c.put_pins_of.ensures

pub returns : goal.returns
returns g c =
    puts_each_number (λ thread. pins_line thread (pin_of c.args.graph.now thread)) 1 c.loop-mutator.mutator (length c.args.graph.now.roots)
    (omega arith) c.loop-mutator.invariant
