use Rattle.trace_reading.proofs.Once.{read_once}
use Rattle.trace_reading.proofs.laws.traces_are_read_once.Goals as goal

pub returns : goal.returns
returns c = read_once
