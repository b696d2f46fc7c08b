use Rattle.std.proofs.Common.{◌≤◌, length, arith}
use Rattle.std.proofs.lemmas.Grind.{common_steps}
use Rattle.shen_base.proofs.Stages.{puts_both, puts_same}
use Rattle.trace_text.proofs.CanonicalLemmas.{one_line}
use Rattle.trace_text.proofs.trace.put_schedule.Goals as goal

pub returns-then-not-is_empty : goal.returns-then-not-is_empty
returns-then-not-is_empty g c =
    let some_items : 1 ≤ length c.args.items.now = let empty_told = c.is_empty.ensures in let is_empty = c.if-not-is_empty.true in grind (arith, common_steps, empty_told, is_empty) in
    puts_same (one_line c.args.items.now some_items) (puts_both c.put.ensures.put (puts_both c.put_items.ensures c.put-then-not-is_empty.ensures.put))
