use Rattle.std.proofs.Common.{length, get_or, take, arith, ap, sym, ◌∙◌}
use Rattle.std.proofs.lemmas.List.{take_more}
use Rattle.shen_graph.specs.GraphText.{add_number, with_number}
use Rattle.shen_graph.specs.GraphText.{with_numbers}
use Rattle.shen_graph.proofs.RowLemmas.{length-change_last, with_numbers-push}
use Rattle.shen_graph.proofs.graph_text.GraphText.add_numbers.Goals as goal

pub loop-number-preserved : goal.loop-number-preserved
loop-number-preserved c =
    let number_index = c.loop-number.number-index in
    let numbers = c.args.numbers.now in
    let number = get_or numbers number_index 0 in
    let text = c.loop-number.self in
    let made = c.number.ensures in
    record {
      rows = ap (λ any_text. length any_text.rows) made ∙ length-change_last (add_number number) text.rows ∙ c.loop-number.invariant.rows;
      spare = omega (arith, ap (λ any_text. any_text.spare) made);
      added = (made ∙ ap (λ any_text. with_number any_text number) c.loop-number.invariant.added
          ∙ sym (with_numbers-push c.args.self.now (take number_index numbers) number)
          ∙ ap (with_numbers c.args.self.now) (sym (take_more numbers number_index 0 (omega arith))));
    }
