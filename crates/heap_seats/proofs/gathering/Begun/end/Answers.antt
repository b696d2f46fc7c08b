use Rattle.std.proofs.Common.{subst}
use Rattle.table_heap.specs.declared.heap.Heap.{Heap}
use Rattle.table_heap.specs.Gathered.{HasAllOf, StandInRun}
use Rattle.heap_seats.proofs.Together.{all_gathered, one_history}
use Rattle.heap_seats.proofs.gathering.Begun.end.Goals as goal

pub returns : goal.returns
returns c seats are_together are_all are_over =
    let begun_seats = c.args.self in
    one_history begun_seats seats are_together are_all are_over (subst (λ (heap : Heap). HasAllOf heap.config begun_seats.machines → StandInRun heap begun_seats.machines) c.deref.ensures c.know.ensures.run (all_gathered begun_seats seats are_together are_all))
