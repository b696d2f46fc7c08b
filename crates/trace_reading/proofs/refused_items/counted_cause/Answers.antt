use Rattle.std.proofs.Common.{sym}
use Rattle.trace_reading.proofs.Words.{number_digits}
use Rattle.trace_reading.proofs.refused_items.counted_cause.Goals as goal

pub range_cause-requires : goal.range_cause-requires
range_cause-requires c = number_digits c.args.machine.now (sym c.if-not-is_number.ensures)

pub range_cause-requires-in-None : goal.range_cause-requires-in-None
range_cause-requires-in-None c = number_digits c.args.count.now (sym c.if-not-is_number-2.ensures)
