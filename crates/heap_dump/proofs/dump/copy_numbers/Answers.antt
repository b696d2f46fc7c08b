use Rattle.std.proofs.Common.{length, get_or, take, arith, ap, sym, ◌∙◌}
use Rattle.std.proofs.lemmas.List.{take_more}
use Rattle.shen_graph.specs.GraphText.{row_of, add_number, with_number, with_numbers}
use Rattle.shen_graph.proofs.RowLemmas.{length-change_last, with_numbers-push}
use Rattle.heap_dump.proofs.dump.copy_numbers.Goals as goal

pub loop-index-preserved : goal.loop-index-preserved
loop-index-preserved c =
    let index = c.loop-index.index in
    let numbers = (row_of c.args.graph.now c.args.row).nums in
    let number = get_or numbers index 0 in
    let text = c.loop-index.text in
    let graph_made = c.number.ensures ∙ ap (with_number text) c.number_at.ensures in
    record {
      rows = ap (λ some_text. length some_text.rows) graph_made ∙ length-change_last (add_number number) text.rows ∙ c.loop-index.invariant.rows;
      spare = omega (arith, ap (λ some_text. some_text.spare) graph_made);
      added = (graph_made ∙ ap (λ some_text. with_number some_text number) c.loop-index.invariant.added
          ∙ sym (with_numbers-push c.args.text.now (take index numbers) number)
          ∙ ap (with_numbers c.args.text.now) (sym (take_more numbers index 0 (omega arith))));
    }
