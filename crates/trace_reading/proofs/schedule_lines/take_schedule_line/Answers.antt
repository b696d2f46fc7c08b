use Rattle.std.proofs.Common.{◌∷◌, [], refl, sym}
use Rattle.trace_reading.proofs.GrammarNumbers.{behind_takes}
use Rattle.trace_reading.proofs.ScheduleLines.{empty_line}
use Rattle.trace_reading.proofs.schedule_lines.take_schedule_line.Goals as goal

pub returns-then-is_line_end-clause-refused : goal.returns-then-is_line_end-clause-refused
returns-then-is_line_end-clause-refused c = λ was_refused.
    empty_line c.args.config.now c.args.bytes.now c.in-Some.items.now (behind_takes (33 ∷ []) c.args.bytes.now c.in-Some.items.now (sym c.in-Some.ensures)) (c.if-is_line_end.ensures.0 refl)
