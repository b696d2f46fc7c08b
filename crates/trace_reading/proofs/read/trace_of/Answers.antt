use Rattle.trace_reading.proofs.Bad.{stops_behind_head}
use Rattle.trace_reading.proofs.read.trace_of.Goals as goal

pub returns-clause-bad_line : goal.returns-clause-bad_line
returns-clause-bad_line c = λ line why was_refused. (
  stops_behind_head c.args.bytes.now c.in-Some.rest.now c.in-Some.version c.in-Some.config line why c.in-Some.ensures.known c.in-Some.ensures.narrow c.in-Some.ensures.found (c.trace_behind.ensures.bad_line line why was_refused),
  c.requires,
)
