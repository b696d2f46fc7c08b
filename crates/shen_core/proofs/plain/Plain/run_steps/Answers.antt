use Rattle.std.proofs.Common.{◌≡◌, ◌-◌, [], ◌∷◌, refl, ap, ◌∙◌, arith}
use Rattle.step_core.specs.Schedule.{steps, moves, move_of}
use Rattle.shen_core.specs.State.{config_of}
use Rattle.shen_core.specs.Progress.{agenda}
use Rattle.shen_core.proofs.Going.{steps_move}
use Rattle.shen_core.proofs.Noting.{runs_none, runs_then, runs_out, task_done, task_idles, task_moves}
use Rattle.shen_core.proofs.plain.Plain.run_steps.Goals as goal

pub loop-wanted-init : goal.loop-wanted-init
loop-wanted-init c = record { run = c.requires.run; config = refl; runs = λ tasks from. runs_none _ _ _ _ }

pub returns-in-Idle-clause-task : goal.returns-in-Idle-clause-task
returns-in-Idle-clause-task c = λ tasks from.
    runs_then c.args.self.now c.loop-wanted.self c.short_turn.new.self c.args.work.now c.loop-wanted.work c.short_turn.new.work _ (agenda (steps c.args.number c.loop-wanted.wanted ∷ tasks) from) (agenda tasks from) _ c.loop-wanted.left _ c.loop-wanted.invariant.config (c.loop-wanted.invariant.runs tasks from)
    (task_idles c.loop-wanted.self c.short_turn.new.self c.loop-wanted.work c.short_turn.new.work c.args.number c.short_turn.result (steps c.args.number c.loop-wanted.wanted) c.loop-wanted.left c.short_turn.ensures.notes c.short_turn.ensures.turned c.in-Idle.is
    (λ scripts stage shows tells no_turn. steps_move (config_of c.loop-wanted.self) scripts stage c.args.number c.loop-wanted.wanted c.loop-wanted-test.true ∙ ap (λ turn_found. moves turn_found (steps c.args.number (c.loop-wanted.wanted - 1) ∷ [])) no_turn) tasks from)

pub loop-wanted-preserved : goal.loop-wanted-preserved
loop-wanted-preserved c = record {
  run = c.short_turn.ensures.run;
  config = c.short_turn.ensures.config ∙ c.loop-wanted.invariant.config;
  runs = λ tasks from.
      runs_then c.args.self.now c.loop-wanted.self c.short_turn.new.self c.args.work.now c.loop-wanted.work c.short_turn.new.work _ (agenda (steps c.args.number c.loop-wanted.wanted ∷ tasks) from) (agenda (steps c.args.number (c.loop-wanted.wanted - 1) ∷ tasks) from) _ c.loop-wanted.left _ c.loop-wanted.invariant.config (c.loop-wanted.invariant.runs tasks from)
      (task_moves c.loop-wanted.self c.short_turn.new.self c.loop-wanted.work c.short_turn.new.work c.args.number c.short_turn.result (steps c.args.number c.loop-wanted.wanted) (steps c.args.number (c.loop-wanted.wanted - 1) ∷ []) c.loop-wanted.left c.short_turn.ensures.notes c.short_turn.ensures.turned c.in_default.not-Idle c.if-left-gt0.true
      (λ scripts stage shows tells waits. steps_move (config_of c.loop-wanted.self) scripts stage c.args.number c.loop-wanted.wanted c.loop-wanted-test.true) tasks from);
}

pub returns-else-left-gt0-clause-task : goal.returns-else-left-gt0-clause-task
returns-else-left-gt0-clause-task c = λ tasks from.
    runs_then c.args.self.now c.loop-wanted.self c.loop-wanted.self c.args.work.now c.loop-wanted.work c.loop-wanted.work _ (agenda (steps c.args.number c.loop-wanted.wanted ∷ tasks) from) (agenda tasks from) _ c.loop-wanted.left _ c.loop-wanted.invariant.config (c.loop-wanted.invariant.runs tasks from)
    (runs_out c.loop-wanted.self c.loop-wanted.work _ _ c.loop-wanted.left (omega arith))

pub returns-after-loop-wanted-clause-task : goal.returns-after-loop-wanted-clause-task
returns-after-loop-wanted-clause-task c = λ tasks from.
    runs_then c.args.self.now c.loop-wanted.self c.loop-wanted.self c.args.work.now c.loop-wanted.work c.loop-wanted.work _ (agenda (steps c.args.number c.loop-wanted.wanted ∷ tasks) from) (agenda tasks from) _ c.loop-wanted.left _ c.loop-wanted.invariant.config (c.loop-wanted.invariant.runs tasks from)
    (task_done c.loop-wanted.self c.loop-wanted.work (steps c.args.number c.loop-wanted.wanted) c.loop-wanted.left (λ scripts stage shows tells. ap (λ count. move_of (config_of c.loop-wanted.self) scripts stage (steps c.args.number count)) (let none_wanted : c.loop-wanted.wanted ≡ 0 = omega arith in none_wanted)) tasks from)
