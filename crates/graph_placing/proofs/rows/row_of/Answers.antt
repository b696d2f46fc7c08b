use Rattle.std.proofs.Common.{◌<◌, ◌+◌, ◌-◌, ◌/◌, length, sym, ◌∙◌, arith}
use Rattle.std.proofs.lemmas.Bool.{false≢true}
use Rattle.shen_graph.specs.GraphText.{names_of}
use Rattle.graph_placing.proofs.Searching.{stands_there, is_before_place, is_not_before_place, names_count, name_of_row}
use Rattle.graph_placing.proofs.rows.row_of.Goals as goal

pub loop-high-init : goal.loop-high-init
loop-high-init c =
    let text = c.args.text.now in
    let name_found = stands_there (names_of text) c.args.name c.args.name c.requires.there in
    (omega arith, omega (arith, name_found.0, names_count text, c.rows-high.ensures), omega (arith, c.rows-high.ensures))

pub loop-high-preserved-then-is_before : goal.loop-high-preserved-then-is_before
loop-high-preserved-then-is_before c =
    let text = c.args.text.now in
    let middle = c.loop-high.low + (c.loop-high.high - c.loop-high.low) / 2 in
    let so_far = c.loop-high.invariant in
    let middle_inside : middle < length text.rows = omega (arith, c.loop-high-test.true, so_far.2) in
    let named = name_of_row text middle c.args.name middle_inside ∙ sym c.name_at.ensures in
    let middle_before = is_before_place (names_of text) c.requires.in_order c.args.name c.requires.there middle c.name_at.result c.args.name (omega (arith, middle_inside, names_count text)) named (c.is_before.ensures.0 c.if-is_before.true) in
    (so_far.0, middle_before, omega (arith, middle_inside))

pub loop-high-preserved : goal.loop-high-preserved
loop-high-preserved c =
    let text = c.args.text.now in
    let middle = c.loop-high.low + (c.loop-high.high - c.loop-high.low) / 2 in
    let so_far = c.loop-high.invariant in
    let middle_inside : middle < length text.rows = omega (arith, c.loop-high-test.true, so_far.2) in
    let named = name_of_row text middle c.args.name middle_inside ∙ sym c.name_at.ensures in (
      is_not_before_place (names_of text) c.requires.in_order c.args.name c.requires.there middle c.name_at.result c.args.name (omega (arith, middle_inside, names_count text)) named (λ name_before. false≢true (sym c.if-is_before.false ∙ c.is_before.ensures.1 name_before)),
      so_far.1,
      so_far.2,
    )
