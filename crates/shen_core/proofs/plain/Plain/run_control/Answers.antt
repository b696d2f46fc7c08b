use Rattle.std.proofs.Common.{[], ◌∷◌, ap, ◌∙◌, arith}
use Rattle.step_core.specs.Schedule.{turn, control, moves}
use Rattle.shen_core.specs.Progress.{agenda}
use Rattle.shen_core.proofs.Noting.{runs_out, task_idles, task_moves}
use Rattle.shen_core.proofs.plain.Plain.run_control.Goals as goal

pub returns-then-left-eq0-clause-task : goal.returns-then-left-eq0-clause-task
returns-then-left-eq0-clause-task c = λ tasks from. runs_out c.args.self.now c.args.work.now (agenda (control ∷ tasks) from) (agenda tasks from) c.args.left c.if-left-eq0.true

pub returns-in-Idle-clause-task : goal.returns-in-Idle-clause-task
returns-in-Idle-clause-task c = task_idles c.args.self.now c.short_turn.new.self c.args.work.now c.short_turn.new.work _ c.short_turn.result control c.args.left c.short_turn.ensures.notes c.short_turn.ensures.turned c.in-Idle.is
    (λ scripts stage shows tells no_turn. ap (λ number. moves (turn scripts stage number) []) (omega (arith, c.seats-control.ensures)) ∙ ap (λ turn_found. moves turn_found []) no_turn)

pub returns-in_default-clause-task : goal.returns-in_default-clause-task
returns-in_default-clause-task c = task_moves c.args.self.now c.short_turn.new.self c.args.work.now c.short_turn.new.work _ c.short_turn.result control [] c.args.left c.short_turn.ensures.notes c.short_turn.ensures.turned c.in_default.not-Idle (omega arith)
    (λ scripts stage shows tells waits. ap (λ number. moves (turn scripts stage number) []) (omega (arith, c.seats-control.ensures)))
