use Rattle.std.proofs.Common.{refl, arith}
use Rattle.shen_graph.specs.Graph.{hub}
use Rattle.shen_graph.specs.GraphText.{row_of, bare}
use Rattle.trace_text.specs.Answer.{object_line}
use Rattle.trace_text.proofs.AnswerLemmas.{puts_next, puts_all}
use Rattle.trace_text.proofs.answer.put_objects.Goals as goal

pub loop-row-preserved : goal.loop-row-preserved
loop-row-preserved g c =
    puts_next object_line c.args.graph.now.rows c.loop-row.row (row_of c.args.graph.now c.loop-row.row) (bare hub)
    (omega arith) refl c.loop-row.invariant c.put_object.ensures

pub returns : goal.returns
returns g c = puts_all object_line c.args.graph.now.rows c.loop-row.row (omega arith) c.loop-row.invariant
