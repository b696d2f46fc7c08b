use Rattle.shen_graph.specs.GraphText.{root_of}
use Rattle.shen_base.proofs.Stages.{puts_both, puts_same}
use Rattle.trace_text.proofs.AnswerLemmas.{roots_line_is}
use Rattle.trace_text.proofs.answer.put_roots_of.Goals as goal

pub returns : goal.returns
returns g c =
    puts_same (roots_line_is c.args.thread (root_of c.args.graph.now c.args.thread))
    (puts_both (puts_both (puts_both c.put.ensures.put c.put_number.ensures.put) c.put_root_words.ensures) c.put-2.ensures.put)
