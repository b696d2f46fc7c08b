use Rattle.std.proofs.Common.{arith}
use Rattle.std.proofs.lemmas.Result.{err_from_is_err_and}
use Rattle.trace_reading.proofs.Bad.{lines_fit, stops_in_commands, stops_in_turns}
use Rattle.trace_reading.proofs.read.trace_behind.Goals as goal

pub returns-in_err-line-clause-bad_line : goal.returns-in_err-line-clause-bad_line
returns-in_err-line-clause-bad_line c = λ line why was_refused.
    let error_found = err_from_is_err_and c.from_residual-in_err-line.result c.from_residual-in_err-line.ensures.1 in
    stops_in_commands c.args.version c.args.config c.args.first c.args.bytes.now line why (c.in_err-line.ensures.bad_line line why (let error_is = error_found.1 in let fault_is = error_found.2 in cc))

pub take_schedule-requires-clause-few : goal.take_schedule-requires-clause-few
take_schedule-requires-clause-few c =
    let lines_taken = c.in_ok-line.ensures.ok in
    let lines_short = lines_fit lines_taken.0.lines c.args.bytes.now c.in_ok-line.turns.now lines_taken.0.spelled in
    omega (arith, lines_short, lines_taken.1, c.requires)

pub returns-in_err-take_schedule-clause-bad_line : goal.returns-in_err-take_schedule-clause-bad_line
returns-in_err-take_schedule-clause-bad_line c = λ line why was_refused.
    let error_found = err_from_is_err_and c.from_residual-in_err-take_schedule.result c.from_residual-in_err-take_schedule.ensures.1 in
    let lines_taken = c.in_ok-line.ensures.ok in
    stops_in_turns c.args.version c.args.config c.args.first c.in_ok-line.line c.args.bytes.now c.in_ok-line.turns.now _ line why lines_taken.0 lines_taken.1 (c.in_err-take_schedule.ensures.bad_line line why (let error_is = error_found.1 in let fault_is = error_found.2 in cc))
