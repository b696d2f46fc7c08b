use Rattle.std.proofs.Common.{[], ◌∷◌, length, arith, ap, ◌∙◌, length-append}
use Rattle.shen_graph.specs.declared.name.Name.{Name}
use Rattle.shen_graph.specs.GraphText.{bare, row_of, with_references, with_numbers, with_whole_row}
use Rattle.shen_graph.proofs.RowLemmas.{whole, rows_left, spare_left}
use Rattle.heap_dump.proofs.dump.copy_object.Goals as goal

pub copy_numbers-requires-clause-last : goal.copy_numbers-requires-clause-last
copy_numbers-requires-clause-last c =
    let row = row_of c.args.graph.now c.args.row in
    omega (
      arith,
      ap (λ some_text. length some_text.rows) c.copy_references.ensures,
      rows_left c.object.new.self row.refs,
      ap (λ some_text. length some_text.rows) c.object.ensures,
      length-append c.args.text.now.rows (bare c.name_at.result ∷ []),
    )

pub copy_references-requires-clause-last : goal.copy_references-requires-clause-last
copy_references-requires-clause-last c =
    omega (arith, ap (λ text. length text.rows) c.object.ensures, length-append c.args.text.now.rows (bare c.name_at.result ∷ []))

pub copy_numbers-requires-clause-room : goal.copy_numbers-requires-clause-room
copy_numbers-requires-clause-room c =
    let row = row_of c.args.graph.now c.args.row in
    omega (
      arith,
      c.requires.room,
      ap (λ text. text.spare) c.copy_references.ensures,
      spare_left c.object.new.self row.refs,
      ap (λ text. text.spare) c.object.ensures,
    )

pub returns : goal.returns
returns c =
    let text = c.args.text.now in
    let row = row_of c.args.graph.now c.args.row in
    c.copy_numbers.ensures
    ∙ ap (λ some_text. with_numbers some_text row.nums) (c.copy_references.ensures ∙ ap (λ some_text. with_references some_text row.refs) c.object.ensures)
    ∙ whole text c.name_at.result row.refs row.nums
    ∙ ap (λ (name : Name). with_whole_row text (record { name = name; refs = row.refs; nums = row.nums })) c.name_at.ensures
