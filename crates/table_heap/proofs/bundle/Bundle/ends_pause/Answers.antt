use Rattle.std.proofs.Common.{arith}
use Rattle.table_heap.proofs.NoOrder.{none_pending}
use Rattle.table_heap.proofs.bundle.Bundle.ends_pause.Goals as goal

pub is_at_place-requires : goal.is_at_place-requires
is_at_place-requires c =
    let bundle = c.args.self.now in
    none_pending bundle c.requires _ c.index.result.now c.in-Some.control (let all_seats = bundle.seats in let seats = c.seats.ensures in omega arith) c.index.ensures c.in-Some.is
