use Rattle.std.proofs.Common.{◌+◌, ◌-◌, ap, ◌∙◌}
use Rattle.std.specs.Prelude.{min, ◌^◌}
use Rattle.table_heap.proofs.HintTotals.{capped_next, total_all, total_of}
use Rattle.table_heap.proofs.closed.hints_taken.Goals as goal

pub loop-place-preserved : goal.loop-place-preserved
loop-place-preserved c =
    let loop_turn = c.loop-place in
    c.saturating_add-taken.ensures ∙ ap (λ hint_count. min (loop_turn.taken + hint_count) (2 ^ 64 - 1)) c.hints_at.ensures
    ∙ capped_next c.args.machines.now loop_turn.place-index (2 ^ 64 - 1) loop_turn.taken c.place-item.result c.loop-place-test.true c.place-item.is loop_turn.invariant

pub returns : goal.returns
returns c = λ actors same_actors.
    c.loop-place.invariant ∙ ap (λ total. min total (2 ^ 64 - 1)) (total_all c.args.machines.now c.loop-place.place-index c.loop-place-test.false ∙ total_of c.args.machines.now actors same_actors)
