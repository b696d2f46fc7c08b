use Rattle.std.proofs.Common.{sym, arith}
use Rattle.trace_reading.proofs.ReadItems.{number_read, no_number, whole_number, no_whole_number, no_more_number, no_bytes}
use Rattle.trace_reading.proofs.ScheduleLines.{not_empty}
use Rattle.trace_reading.proofs.scan.number_in.Goals as goal

pub returns-in_err-number : goal.returns-in_err-number
returns-in_err-number c = rw c.from_residual.ensures (no_whole_number c.args.most c.args.text.now (no_number c.args.most c.args.text.now (omega arith) c.in_err-number.ensures))

pub returns-then-is_empty : goal.returns-then-is_empty
returns-then-is_empty c =
    whole_number c.args.most c.args.text.now c.in_ok-number.number c.in_ok-number.rest.now (number_read c.args.most c.args.text.now c.in_ok-number.number c.in_ok-number.rest.now (omega arith) c.in_ok-number.ensures) (no_bytes c.in_ok-number.rest.now (sym c.if-is_empty.ensures))

pub returns-else-is_empty : goal.returns-else-is_empty
returns-else-is_empty c =
    no_more_number c.args.most c.args.text.now c.in_ok-number.number c.in_ok-number.rest.now (number_read c.args.most c.args.text.now c.in_ok-number.number c.in_ok-number.rest.now (omega arith) c.in_ok-number.ensures) (not_empty c.in_ok-number.rest.now (sym c.if-is_empty.ensures))
