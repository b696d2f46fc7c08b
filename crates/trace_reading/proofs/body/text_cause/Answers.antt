use Rattle.std.proofs.Common.{ℕ, sym, ap, ◌∙◌}
use Rattle.trace_reading.specs.Causes.{parts_behind, command_cause}
use Rattle.trace_reading.proofs.Lines.{turn_words, late_words, command_words}
use Rattle.trace_reading.proofs.body.text_cause.Goals as goal

pub returns-then-eq : goal.returns-then-eq
returns-then-eq c = c.schedule_cause.ensures ∙ sym (turn_words c.args.version c.args.config.now c.args.behind_schedule _ _ _ c.cut.ensures.parts (rw (← c.as_slice.ensures) c.if-eq.ensures))

pub returns-then-behind_schedule : goal.returns-then-behind_schedule
returns-then-behind_schedule c = sym (late_words c.args.version c.args.config.now c.args.behind_schedule _ _ _ c.cut.ensures.parts (rw (← c.as_slice.ensures) c.if-eq.ensures) c.if-behind_schedule.true)

pub returns-else-behind_schedule : goal.returns-else-behind_schedule
returns-else-behind_schedule c =
    c.command_cause.ensures ∙ ap (λ (threads : ℕ). command_cause c.args.version threads c.cut.result.0.now (parts_behind 32 c.cut.result.1.now)) c.mutators.ensures
    ∙ sym (command_words c.args.version c.args.config.now c.args.behind_schedule _ _ _ c.cut.ensures.parts (rw (← c.as_slice.ensures) c.if-eq.ensures) c.if-behind_schedule.false)
