use Rattle.std.proofs.Common.{sym, ◌∙◌}
use Rattle.trace_reading.proofs.Words.{some_items_left}
use Rattle.trace_reading.proofs.refused_items.schedule_cause.Goals as goal

pub returns-else-is_empty : goal.returns-else-is_empty
returns-else-is_empty c = c.items_cause.ensures ∙ sym (some_items_left c.args.config.now c.args.words.now c.if-is_empty.ensures)
