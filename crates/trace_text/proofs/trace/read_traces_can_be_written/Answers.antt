use Rattle.trace_text.proofs.Rewritten.{can_be_written}
use Rattle.trace_text.proofs.trace.read_traces_can_be_written.Goals as goal

pub returns : goal.returns
returns c = can_be_written
