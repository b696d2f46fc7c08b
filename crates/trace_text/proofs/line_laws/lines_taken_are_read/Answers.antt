use Rattle.trace_text.proofs.TakenTraces.{read_as_taken}
use Rattle.trace_text.proofs.line_laws.lines_taken_are_read.Goals as goal

pub returns : goal.returns
returns c = read_as_taken
