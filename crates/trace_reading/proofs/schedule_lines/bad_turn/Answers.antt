use Rattle.std.proofs.Common.{ltb, sym, ◌∙◌}
use Rattle.trace_reading.proofs.Bad.{turn_cause, not_later, known}
use Rattle.trace_reading.proofs.schedule_lines.bad_turn.Goals as goal

pub unwrap-why-requires : goal.unwrap-why-requires
unwrap-why-requires c =
    known c.body_refusal.result (λ no_cause.
    turn_cause c.args.version c.args.config.now (ltb c.args.first c.args.line) c.args.bytes.now c.requires.some (λ not_before. c.requires.mark (not_later c.args.first c.args.line not_before)) c.requires.refused (sym c.body_refusal.ensures ∙ no_cause))
