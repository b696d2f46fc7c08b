use Rattle.std.proofs.Common.{length, get_or, take, arith, ap, sym, ◌∙◌, None}
use Rattle.std.proofs.lemmas.List.{take_more}
use Rattle.shen_graph.specs.GraphText.{row_of, add_reference, with_reference, with_references}
use Rattle.shen_graph.proofs.RowLemmas.{length-change_last, with_references-push}
use Rattle.heap_dump.proofs.dump.copy_references.Goals as goal

pub loop-index-preserved : goal.loop-index-preserved
loop-index-preserved c =
    let index = c.loop-index.index in
    let references = (row_of c.args.graph.now c.args.row).refs in
    let reference = get_or references index None in
    let text = c.loop-index.text in
    let graph_made = c.reference.ensures ∙ ap (with_reference text) c.reference_at.ensures in
    record {
      rows = ap (λ some_text. length some_text.rows) graph_made ∙ length-change_last (add_reference reference) text.rows ∙ c.loop-index.invariant.rows;
      spare = omega (arith, ap (λ some_text. some_text.spare) graph_made);
      added = (graph_made ∙ ap (λ some_text. with_reference some_text reference) c.loop-index.invariant.added
          ∙ sym (with_references-push c.args.text.now (take index references) reference)
          ∙ ap (with_references c.args.text.now) (sym (take_more references index None (omega arith))));
    }
