use Rattle.std.proofs.Common.{inl, inr}
use Rattle.trace_reading.proofs.head.behind_line.Goals as goal

pub returns-in-Some : goal.returns-in-Some
returns-in-Some c = (_, inr c.in-Some.ensures)

pub returns-in-None : goal.returns-in-None
returns-in-None c = let line_cut = c.in-None.ensures in (line_cut.0, inl line_cut.1)
