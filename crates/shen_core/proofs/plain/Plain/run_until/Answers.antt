use Rattle.std.proofs.Common.{[], ◌∷◌, refl, sym, ap, ◌∙◌, arith}
use Rattle.step_core.specs.Schedule.{until, moves}
use Rattle.shen_core.specs.State.{config_of}
use Rattle.shen_core.specs.Progress.{agenda}
use Rattle.shen_core.proofs.Turns.{stands_shown}
use Rattle.shen_core.proofs.Going.{plain_within, until_there, until_move}
use Rattle.shen_core.proofs.Noting.{runs_none, runs_then, runs_out, task_done, task_idles, task_moves}
use Rattle.shen_core.proofs.plain.Plain.run_until.Goals as goal

pub loop-left-init : goal.loop-left-init
loop-left-init c = record { run = c.requires.run; config = refl; runs = λ tasks from. runs_none _ _ _ _ }

pub returns-in-Idle-clause-task : goal.returns-in-Idle-clause-task
returns-in-Idle-clause-task c = λ tasks from.
    runs_then c.args.self.now c.loop-left.self c.short_turn.new.self c.args.work.now c.loop-left.work c.short_turn.new.work _ (agenda (until c.args.number c.args.place ∷ tasks) from) (agenda tasks from) _ c.loop-left.left _ c.loop-left.invariant.config (c.loop-left.invariant.runs tasks from)
    (task_idles c.loop-left.self c.short_turn.new.self c.loop-left.work c.short_turn.new.work c.args.number c.short_turn.result (until c.args.number c.args.place) c.loop-left.left c.short_turn.ensures.notes c.short_turn.ensures.turned c.in-Idle.is
    (λ scripts stage shows tells no_turn. until_move (config_of c.loop-left.self) scripts stage c.args.number c.args.place (stands_shown c.loop-left.self c.loop-left.work c.args.number c.args.place (plain_within c.args.self.now c.loop-left.self c.args.number c.loop-left.invariant.config c.requires.number) scripts stage shows tells ∙ sym c.is_at_place.ensures ∙ c.if-not-is_at_place.true) ∙ ap (λ turn_found. moves turn_found (until c.args.number c.args.place ∷ [])) no_turn) tasks from)

pub loop-left-preserved : goal.loop-left-preserved
loop-left-preserved c = record {
  run = c.short_turn.ensures.run;
  config = c.short_turn.ensures.config ∙ c.loop-left.invariant.config;
  runs = λ tasks from.
      runs_then c.args.self.now c.loop-left.self c.short_turn.new.self c.args.work.now c.loop-left.work c.short_turn.new.work _ (agenda (until c.args.number c.args.place ∷ tasks) from) (agenda (until c.args.number c.args.place ∷ tasks) from) _ c.loop-left.left _ c.loop-left.invariant.config (c.loop-left.invariant.runs tasks from)
      (task_moves c.loop-left.self c.short_turn.new.self c.loop-left.work c.short_turn.new.work c.args.number c.short_turn.result (until c.args.number c.args.place) (until c.args.number c.args.place ∷ []) c.loop-left.left c.short_turn.ensures.notes c.short_turn.ensures.turned c.in_default.not-Idle c.loop-left-test.true
      (λ scripts stage shows tells waits. until_move (config_of c.loop-left.self) scripts stage c.args.number c.args.place (stands_shown c.loop-left.self c.loop-left.work c.args.number c.args.place (plain_within c.args.self.now c.loop-left.self c.args.number c.loop-left.invariant.config c.requires.number) scripts stage shows tells ∙ sym c.is_at_place.ensures ∙ c.if-not-is_at_place.true)) tasks from);
}

pub returns-else-not-is_at_place-clause-task : goal.returns-else-not-is_at_place-clause-task
returns-else-not-is_at_place-clause-task c = λ tasks from.
    runs_then c.args.self.now c.loop-left.self c.loop-left.self c.args.work.now c.loop-left.work c.loop-left.work _ (agenda (until c.args.number c.args.place ∷ tasks) from) (agenda tasks from) _ c.loop-left.left _ c.loop-left.invariant.config (c.loop-left.invariant.runs tasks from)
    (task_done c.loop-left.self c.loop-left.work (until c.args.number c.args.place) c.loop-left.left (λ scripts stage shows tells. until_there (config_of c.loop-left.self) scripts stage c.args.number c.args.place (stands_shown c.loop-left.self c.loop-left.work c.args.number c.args.place (plain_within c.args.self.now c.loop-left.self c.args.number c.loop-left.invariant.config c.requires.number) scripts stage shows tells ∙ sym c.is_at_place.ensures ∙ c.if-not-is_at_place.false)) tasks from)

pub returns-after-loop-left-clause-task : goal.returns-after-loop-left-clause-task
returns-after-loop-left-clause-task c = λ tasks from.
    runs_then c.args.self.now c.loop-left.self c.loop-left.self c.args.work.now c.loop-left.work c.loop-left.work _ (agenda (until c.args.number c.args.place ∷ tasks) from) (agenda tasks from) _ c.loop-left.left _ c.loop-left.invariant.config (c.loop-left.invariant.runs tasks from)
    (runs_out c.loop-left.self c.loop-left.work _ _ c.loop-left.left (omega arith))
