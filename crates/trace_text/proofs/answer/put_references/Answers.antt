use Rattle.std.proofs.Common.{◌∷◌, None, arith}
use Rattle.shen_graph.specs.GraphText.{row_of}
use Rattle.trace_reading.specs.Spelling.{space}
use Rattle.trace_text.specs.Answer.{reference_word}
use Rattle.trace_text.proofs.AnswerLemmas.{puts_next, puts_all}
use Rattle.trace_text.proofs.answer.put_references.Goals as goal

pub loop-index-preserved : goal.loop-index-preserved
loop-index-preserved g c =
    puts_next (λ reference. space ∷ reference_word reference) (row_of c.args.graph.now c.args.row).refs c.loop-index.index c.reference_at.result None
    (omega arith) c.reference_at.ensures c.loop-index.invariant c.put_reference.ensures

pub returns : goal.returns
returns g c = puts_all (λ reference. space ∷ reference_word reference) (row_of c.args.graph.now c.args.row).refs c.loop-index.index (omega arith) c.loop-index.invariant
