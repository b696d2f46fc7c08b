use Rattle.std.proofs.Common.{arith}
use Rattle.table_heap.proofs.NoOrder.{none_pending}
use Rattle.table_heap.proofs.bundle.Bundle.awaits_pause_end.Goals as goal

pub has_next-requires : goal.has_next-requires
has_next-requires c =
    none_pending c.args.self.now c.requires c.loop-number.number c.index.result.now c.in-Some.machine
    (let number_below = c.loop-number-test.true in let end_known = c.len-number-end.ensures in omega arith) c.index.ensures c.in-Some.is

pub awaits-requires : goal.awaits-requires
awaits-requires c =
    none_pending c.args.self.now c.requires c.loop-number.number c.index.result.now c.in-Some.machine
    (let number_below = c.loop-number-test.true in let end_known = c.len-number-end.ensures in omega arith) c.index.ensures c.in-Some.is
