use Rattle.std.proofs.Common.{[], ◌∷◌, length, map, get_or, take, arith, ap, sym, ◌∙◌}
use Rattle.std.proofs.lemmas.List.{take_more, map-append}
use Rattle.shen_graph.specs.GraphText.{add_reference, with_reference}
use Rattle.shen_graph.specs.GraphText.{with_references}
use Rattle.heap_world.specs.Rows.{reference_in}
use Rattle.shen_graph.proofs.RowLemmas.{length-change_last, with_references-push}
use Rattle.heap_world.proofs.rows.add_references.Goals as goal

pub loop-word-preserved : goal.loop-word-preserved
loop-word-preserved c =
    let index = c.loop-word.word-index in
    let words = c.args.words.now in
    let word = get_or words index 0 in
    let shown = reference_in c.args.first c.args.heap.now in
    let text = c.loop-word.text in
    let made = c.reference.ensures ∙ ap (with_reference text) c.reference_to.ensures in
    record {
      rows = ap (λ written_text. length written_text.rows) made ∙ length-change_last (add_reference (shown word)) text.rows ∙ c.loop-word.invariant.rows;
      spare = omega (arith, ap (λ written_text. written_text.spare) made);
      added = (made ∙ ap (λ written_text. with_reference written_text (shown word)) c.loop-word.invariant.added
          ∙ sym (with_references-push c.args.text.now (map shown (take index words)) (shown word))
          ∙ ap (with_references c.args.text.now)
          (sym (map-append shown (take index words) (word ∷ [])) ∙ ap (map shown) (sym (take_more words index 0 (omega arith)))));
    }
