use Rattle.std.proofs.Common.{◌∷◌, ap, arith}
use Rattle.shen_graph.specs.GraphText.{root_of}
use Rattle.shen_base.proofs.Stages.{puts_same}
use Rattle.trace_reading.specs.Spelling.{space}
use Rattle.trace_text.specs.Answer.{reference_word}
use Rattle.trace_text.proofs.AnswerLemmas.{puts_next_number, root_words_are}
use Rattle.trace_text.proofs.answer.put_root_words.Goals as goal

pub loop-index-preserved : goal.loop-index-preserved
loop-index-preserved g c =
    puts_next_number (λ index. space ∷ reference_word (root_of c.args.graph.now c.args.thread index)) 0 c.loop-index.index c.loop-index.index
    (omega arith) c.loop-index.invariant (puts_same (ap (λ reference. space ∷ reference_word reference) c.root_at.ensures) c.put_reference.ensures)

pub returns : goal.returns
returns g c = puts_same (root_words_are (root_of c.args.graph.now c.args.thread) c.loop-index.index (omega arith)) c.loop-index.invariant
