use Rattle.std.proofs.Common.{◌∷◌, arith}
use Rattle.std.specs.Fmt.{decimal}
use Rattle.shen_graph.specs.GraphText.{row_of}
use Rattle.shen_base.proofs.Stages.{puts_both}
use Rattle.trace_reading.specs.Spelling.{space}
use Rattle.trace_text.proofs.AnswerLemmas.{puts_next, puts_all}
use Rattle.trace_text.proofs.answer.put_numbers.Goals as goal

pub loop-index-preserved : goal.loop-index-preserved
loop-index-preserved g c =
    puts_next (λ number. space ∷ decimal number) (row_of c.args.graph.now c.args.row).nums c.loop-index.index c.number_at.result 0
    (omega arith) c.number_at.ensures c.loop-index.invariant (puts_both c.put.ensures.put c.put_number.ensures.put)

pub returns : goal.returns
returns g c = puts_all (λ number. space ∷ decimal number) (row_of c.args.graph.now c.args.row).nums c.loop-index.index (omega arith) c.loop-index.invariant
