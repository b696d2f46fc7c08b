use Rattle.std.proofs.Common.{arith}
use Rattle.collector_rows.proofs.control_spot.seat_of.Goals as goal

pub overflow_add-result : goal.overflow_add-result
overflow_add-result c = omega arith
