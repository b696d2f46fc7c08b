use Rattle.std.proofs.Common.{sym, ◌∙◌}
use Rattle.trace_reading.proofs.Bad.{command_cause, known}
use Rattle.trace_reading.proofs.read.bad_command.Goals as goal

pub unwrap-why-requires : goal.unwrap-why-requires
unwrap-why-requires c = known c.body_refusal.result (λ no_cause. command_cause c.args.version c.args.config.now c.args.bytes.now c.requires.some c.requires.refused (sym c.body_refusal.ensures ∙ no_cause))
