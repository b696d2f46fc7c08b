use Rattle.std.proofs.Common.{◌-◌, sym, ap, ◌∙◌, arith}
use Rattle.shen_graph.specs.GraphText.{row_of}
use Rattle.graph_placing.specs.PlacedHeap.{word_for}
use Rattle.graph_placing.proofs.ObjectWords.{reference_word, number_word}
use Rattle.graph_placing.proofs.objects.object_word.Goals as goal

pub returns-then-index-refs : goal.returns-then-index-refs
returns-then-index-refs c =
    let text = c.args.text.now in
    let row = row_of text c.args.row in
    c.word_for.ensures ∙ ap (word_for c.args.config text) c.reference_at.ensures
    ∙ sym (reference_word (word_for c.args.config text) row (c.args.index - 3) c.args.index (omega (arith, c.if-index-eq0.false, c.if-index-eq1.false, c.if-index-eq2.false)) (omega (arith, c.if-index-eq0.false, c.if-index-eq1.false, c.if-index-eq2.false, c.if-index-refs.true, c.refs_at-refs.ensures)))

pub returns-else-index-refs : goal.returns-else-index-refs
returns-else-index-refs c =
    let text = c.args.text.now in
    let row = row_of text c.args.row in
    c.number_at.ensures ∙ sym (number_word (word_for c.args.config text) row (c.args.index - 3 - c.refs_at-refs.result) c.args.index (omega (arith, c.if-index-refs.false, c.refs_at-refs.ensures)))
