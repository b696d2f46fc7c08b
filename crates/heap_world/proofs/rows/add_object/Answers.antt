use Rattle.std.proofs.Common.{◌+◌, ◌-◌, ◌≤◌, [], ◌∷◌, length, map, arith, ap, ◌∙◌, length-append}
use Rattle.std.proofs.lemmas.List.{length-map}
use Rattle.shen_graph.specs.GraphText.{bare, with_row, with_references, with_numbers}
use Rattle.heap_world.specs.Walk.{refs_at, nums_at, size_at}
use Rattle.heap_world.specs.Rows.{name_in_heap, reference_in}
use Rattle.heap_world.proofs.ObjectRows.{length-refs_at, length-nums_at}
use Rattle.shen_graph.proofs.RowLemmas.{whole, rows_left, spare_left}
use Rattle.heap_world.proofs.rows.add_object.Goals as goal

pub add_numbers-requires-clause-row : goal.add_numbers-requires-clause-row
add_numbers-requires-clause-row c =
    let refs = map (reference_in c.args.first c.args.heap.now) c.references.result.now in
    let last_row = bare c.name.result ∷ [] in
    omega (
      arith,
      ap (λ text. length text.rows) c.add_references.ensures,
      rows_left c.object.new.self refs,
      ap (λ text. length text.rows) c.object.ensures,
      length-append c.args.text.now.rows last_row,
    )

pub add_numbers-requires-clause-room : goal.add_numbers-requires-clause-room
add_numbers-requires-clause-room c =
    let heap = c.args.heap.now in
    let offset = c.args.address - c.args.first in
    let words = c.references.result.now in
    let refs = map (reference_in c.args.first heap) words in
    let within : offset + size_at heap offset ≤ length heap = omega arith in
    omega (
      arith,
      ap (λ text. text.spare) c.add_references.ensures,
      spare_left c.object.new.self refs,
      ap (λ text. text.spare) c.object.ensures,
      length-map words (reference_in c.args.first heap),
      ap length c.references.ensures,
      ap length c.numbers.ensures,
      length-refs_at heap offset within,
      length-nums_at heap offset within,
    )

pub returns : goal.returns
returns c =
    let heap = c.args.heap.now in
    let shown = map (reference_in c.args.first heap) in
    let offset = c.args.address - c.args.first in
    c.add_numbers.ensures
    ∙ ap (with_numbers c.add_references.new.text) c.numbers.ensures
    ∙ ap (λ text. with_numbers text (nums_at heap offset))
    (c.add_references.ensures ∙ ap (λ words. with_references c.object.new.self (shown words)) c.references.ensures
    ∙ ap (λ text. with_references text (shown (refs_at heap offset))) (c.object.ensures ∙ ap (with_row c.args.text.now) c.name.ensures))
    ∙ whole c.args.text.now (name_in_heap heap offset) (shown (refs_at heap offset)) (nums_at heap offset)
