use Rattle.std.proofs.Common.{sym, ◌∙◌}
use Rattle.trace_reading.proofs.Lines.{ended, nothing_left, cut_off}
use Rattle.trace_reading.specs.Refused.{body_stage}
use Rattle.trace_reading.proofs.body.body_refusal.Goals as goal

pub returns-then-not-is_empty : goal.returns-then-not-is_empty
returns-then-not-is_empty c = c.text_cause.ensures ∙ sym (ended (body_stage c.args.version c.args.config.now c.args.behind_schedule) c.args.bytes.now _ _ c.cut.ensures.parts c.if-not-is_empty.ensures)

pub returns-then-is_empty : goal.returns-then-is_empty
returns-then-is_empty c = sym (nothing_left c.args.version c.args.config.now c.args.behind_schedule c.args.bytes.now _ _ c.cut.ensures.parts c.if-not-is_empty.ensures c.if-is_empty.ensures)

pub returns-else-is_empty : goal.returns-else-is_empty
returns-else-is_empty c = sym (cut_off c.args.version c.args.config.now c.args.behind_schedule c.args.bytes.now _ _ c.cut.ensures.parts c.if-not-is_empty.ensures c.if-is_empty.ensures)
