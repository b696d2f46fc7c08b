use Rattle.std.proofs.Common.{[], ◌∷◌, length, arith, ap, ◌∙◌, length-append}
use Rattle.shen_graph.specs.GraphText.{bare, with_references, with_numbers}
use Rattle.shen_graph.proofs.RowLemmas.{whole, rows_left, spare_left}
use Rattle.shen_graph.proofs.object.Object.put.Goals as goal

pub add_numbers-requires-clause-row : goal.add_numbers-requires-clause-row
add_numbers-requires-clause-row c =
    omega (
      arith,
      ap (λ text. length text.rows) c.put_references.ensures,
      rows_left c.object.new.self c.deref.result.now,
      ap (λ text. length text.rows) c.object.ensures,
      length-append c.args.text.now.rows (bare c.self.inside.name ∷ []),
    )

pub add_numbers-requires-clause-room : goal.add_numbers-requires-clause-room
add_numbers-requires-clause-room c =
    let room = rw (← c.self.view_is) at c.requires in
    omega (
      arith,
      room,
      ap (λ text. text.spare) c.put_references.ensures,
      spare_left c.object.new.self c.deref.result.now,
      ap (λ text. text.spare) c.object.ensures,
      ap length c.deref.ensures.value,
      ap length c.deref-2.ensures.value,
    )

pub returns : goal.returns
returns c =
    rw (← c.self.view_is)
    (c.add_numbers.ensures
    ∙ ap (with_numbers c.put_references.new.text) c.deref-2.ensures.value
    ∙ ap (λ text. with_numbers text c.self.inside.nums.items)
    (c.put_references.ensures ∙ ap (with_references c.object.new.self) c.deref.ensures.value
    ∙ ap (λ text. with_references text c.self.inside.refs.items) c.object.ensures)
    ∙ whole c.args.text.now c.self.inside.name c.self.inside.refs.items c.self.inside.nums.items)
