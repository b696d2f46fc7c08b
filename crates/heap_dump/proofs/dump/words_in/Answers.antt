use Rattle.std.proofs.Common.{◌+◌, ◌^◌, ◌<◌, length, arith}
use Rattle.std.proofs.lemmas.List.Sums.{sum_by_more_le}
use Rattle.shen_graph.specs.Graph.{hub}
use Rattle.shen_graph.specs.GraphText.{bare}
use Rattle.heap_dump.specs.Dumped.{row_words}
use Rattle.heap_dump.proofs.dump.words_in.Goals as goal

pub returns-in_err-checked_add : goal.returns-in_err-checked_add
returns-in_err-checked_add c =
    let too_many : c.loop-row.words + 3 < 2 ^ 64 → ⊥ = c.in_err-checked_add.ensures in
    let row_below : c.loop-row.row < length c.args.graph.now.rows = omega (arith, c.loop-row-test.true, c.rows-row-end.ensures) in
    rw c.from_residual.ensures
    (omega (arith, too_many, c.loop-row.invariant, sum_by_more_le row_words c.args.graph.now.rows c.loop-row.row (bare hub) row_below))
