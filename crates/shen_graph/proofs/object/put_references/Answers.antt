use Rattle.std.proofs.Common.{length, get_or, take, arith, ap, sym, ◌∙◌, None}
use Rattle.std.proofs.lemmas.List.{take_more}
use Rattle.shen_graph.specs.GraphText.{add_reference, with_reference, with_references}
use Rattle.shen_graph.proofs.RowLemmas.{length-change_last, with_references-push}
use Rattle.shen_graph.proofs.object.put_references.Goals as goal

pub loop-reference-preserved : goal.loop-reference-preserved
loop-reference-preserved c =
    let reference_index = c.loop-reference.reference-index in
    let references = c.args.references.now in
    let reference = get_or references reference_index None in
    let text = c.loop-reference.text in
    let made = c.reference.ensures in
    record {
      rows = ap (λ any_text. length any_text.rows) made ∙ length-change_last (add_reference reference) text.rows ∙ c.loop-reference.invariant.rows;
      spare = omega (arith, ap (λ any_text. any_text.spare) made);
      added = (made ∙ ap (λ any_text. with_reference any_text reference) c.loop-reference.invariant.added
          ∙ sym (with_references-push c.args.text.now (take reference_index references) reference)
          ∙ ap (with_references c.args.text.now) (sym (take_more references reference_index None (omega arith))));
    }
