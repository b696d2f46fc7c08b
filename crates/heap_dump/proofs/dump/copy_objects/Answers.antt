use Rattle.std.proofs.Common.{◌<◌, [], ◌∷◌, ◌++◌, length, get_or, take, arith, ap, sym, ◌∙◌}
use Rattle.std.proofs.lemmas.List.{append_assoc}
use Rattle.std.proofs.lemmas.List.Sums.{sum_by_more, sum_by_more_le}
use Rattle.shen_graph.specs.Graph.{hub}
use Rattle.shen_graph.specs.GraphText.{bare}
use Rattle.heap_dump.specs.Dumped.{row_words}
use Rattle.heap_dump.specs.RowsReached.{marked_rows}
use Rattle.heap_dump.proofs.MarkedRows.{marked_one, unmarked_one}
use Rattle.heap_dump.proofs.dump.copy_objects.Goals as goal
use Rattle.heap_dump.proofs.dump.copy_objects.Goals.{then-marks-row, else-marks-row}

pub copy_object-requires-clause-room : goal.copy_object-requires-clause-room
copy_object-requires-clause-room c =
    omega (arith, c.requires, c.loop-row.invariant.spare, sum_by_more_le row_words c.args.graph.now.rows c.loop-row.row (bare hub))

pub loop-row-preserved : goal.loop-row-preserved
loop-row-preserved c =
    let marks = c.args.marks.now in
    let rows = c.args.graph.now.rows in
    let index = c.loop-row.row in
    let row = get_or rows index (bare hub) in
    let index_below : index < length rows = omega arith in
    let words_more = sum_by_more row_words rows index (bare hub) index_below in
    elim c.if-marks-row.branch [
      | then-marks-row w ↦ record {
        rows = (ap (λ some_text. some_text.rows) w.text-is ∙ ap (λ some_text. some_text.rows) w.copy_object.ensures ∙ ap (λ row_list. row_list ++ row ∷ []) c.loop-row.invariant.rows
            ∙ append_assoc c.args.text.now.rows (marked_rows (take index marks) (take index rows)) (row ∷ [])
            ∙ ap (λ row_list. c.args.text.now.rows ++ row_list) (sym (marked_one marks rows index (bare hub) index_below c.requires.marks w.if-marks-row.true)));
        roots = ap (λ some_text. some_text.roots) w.text-is ∙ ap (λ some_text. some_text.roots) w.copy_object.ensures ∙ c.loop-row.invariant.roots;
        pins = ap (λ some_text. some_text.pins) w.text-is ∙ ap (λ some_text. some_text.pins) w.copy_object.ensures ∙ c.loop-row.invariant.pins;
        spare = omega (arith, ap (λ some_text. some_text.spare) w.text-is, ap (λ some_text. some_text.spare) w.copy_object.ensures, c.loop-row.invariant.spare, words_more);
      }
      | else-marks-row w ↦ record {
        rows = (ap (λ some_text. some_text.rows) w.text-is ∙ c.loop-row.invariant.rows
            ∙ ap (λ row_list. c.args.text.now.rows ++ row_list) (sym (unmarked_one marks rows index (bare hub) index_below c.requires.marks w.if-marks-row.false)));
        roots = ap (λ some_text. some_text.roots) w.text-is ∙ c.loop-row.invariant.roots;
        pins = ap (λ some_text. some_text.pins) w.text-is ∙ c.loop-row.invariant.pins;
        spare = omega (arith, ap (λ some_text. some_text.spare) w.text-is, c.loop-row.invariant.spare, words_more);
      }
    ]
