use Rattle.std.proofs.Common.{sym}
use Rattle.trace_reading.proofs.Words.{number_digits}
use Rattle.trace_reading.proofs.refused_items.until_cause.Goals as goal

pub range_cause-requires : goal.range_cause-requires
range_cause-requires c = number_digits c.args.machine.now (sym c.if-is_number.ensures)
