use Rattle.shen_graph.specs.GraphText.{row_of}
use Rattle.shen_base.proofs.Stages.{puts_both, puts_same}
use Rattle.trace_text.proofs.AnswerLemmas.{object_line_is}
use Rattle.trace_text.proofs.answer.put_object.Goals as goal

pub returns : goal.returns
returns g c =
    puts_same (object_line_is (row_of c.args.graph.now c.args.row) c.name_at.result c.name_at.ensures)
    (puts_both (puts_both (puts_both (puts_both (puts_both c.put.ensures.put c.put_name.ensures) c.put_references.ensures) c.put-2.ensures.put) c.put_numbers.ensures) c.put-3.ensures.put)
