use Rattle.std.proofs.Common.{◌<◌, ◌-◌, [], ◌∷◌, ◌++◌, length, refl, sym, ap, ◌∙◌, subst, arith}
use Rattle.std.proofs.lemmas.Bool.{le-leb, lt-leb}
use Rattle.step_core.specs.Schedule.{turn, waits_then, replies, control, control_after, moves}
use Rattle.shen_core.specs.State.{config_of}
use Rattle.shen_core.specs.Progress.{agenda}
use Rattle.shen_core.proofs.Going.{plain_within, waiting_of, given_told, waiting_not, replies_given, replies_move}
use Rattle.shen_core.proofs.Noting.{runs_none, runs_then, runs_out, task_done, task_idles, task_moves}
use Rattle.shen_core.proofs.plain.Plain.run_replies.Goals as goal

pub loop-left-init : goal.loop-left-init
loop-left-init c = record { run = c.requires.run; config = refl; runs = λ tasks from. runs_none _ _ _ _ }

pub returns-in-Idle-clause-task : goal.returns-in-Idle-clause-task
returns-in-Idle-clause-task c = λ tasks from.
    runs_then c.args.self.now c.loop-left.self c.turn.new.self c.args.work.now c.loop-left.work c.turn.new.work _ (agenda (replies c.args.number c.args.count ∷ tasks) from) (agenda tasks from) _ c.loop-left.left _ c.loop-left.invariant.config (c.loop-left.invariant.runs tasks from)
    (task_idles c.loop-left.self c.turn.new.self c.loop-left.work c.turn.new.work c.args.number c.turn.result (replies c.args.number c.args.count) c.loop-left.left c.turn.ensures.notes c.turn.ensures.turned c.in-Idle.is
    (λ scripts stage shows tells no_turn. replies_move (config_of c.loop-left.self) scripts stage c.args.number c.args.count (let replies_told = given_told c.loop-left.self c.loop-left.work c.args.number scripts stage (plain_within c.args.self.now c.loop-left.self c.args.number c.loop-left.invariant.config (omega (arith, c.requires.number))) (subst (λ config. c.args.number < config.mutators) (sym c.loop-left.invariant.config) c.requires.number) shows tells in let list = ap length (c.list.ensures ∙ c.replies.ensures.replies) in (lt-leb _ _ (omega arith))) ∙ ap (λ turn_found. moves turn_found (control_after (waits_then (config_of c.loop-left.self) stage turn_found) ++ replies c.args.number c.args.count ∷ [])) no_turn) tasks from)

pub loop-left-preserved-in-Again : goal.loop-left-preserved-in-Again
loop-left-preserved-in-Again c = record {
  run = c.run_control-left.ensures.run;
  config = c.run_control-left.ensures.config ∙ c.turn.ensures.config ∙ c.loop-left.invariant.config;
  runs = λ tasks from.
      runs_then c.args.self.now c.loop-left.self c.run_control-left.new.self c.args.work.now c.loop-left.work c.run_control-left.new.work _ (agenda (replies c.args.number c.args.count ∷ tasks) from) (agenda (replies c.args.number c.args.count ∷ tasks) from) _ c.loop-left.left _ c.loop-left.invariant.config (c.loop-left.invariant.runs tasks from)
      (runs_then c.loop-left.self c.turn.new.self c.run_control-left.new.self c.loop-left.work c.turn.new.work c.run_control-left.new.work (agenda (replies c.args.number c.args.count ∷ tasks) from) (agenda (control ∷ replies c.args.number c.args.count ∷ tasks) from) (agenda (replies c.args.number c.args.count ∷ tasks) from) c.loop-left.left (c.loop-left.left - 1) _ c.turn.ensures.config
      (task_moves c.loop-left.self c.turn.new.self c.loop-left.work c.turn.new.work c.args.number c.turn.result (replies c.args.number c.args.count) (control ∷ replies c.args.number c.args.count ∷ []) c.loop-left.left c.turn.ensures.notes c.turn.ensures.turned (λ idle. cc) c.loop-left-test.true
      (λ scripts stage shows tells waits. replies_move (config_of c.loop-left.self) scripts stage c.args.number c.args.count (let replies_told = given_told c.loop-left.self c.loop-left.work c.args.number scripts stage (plain_within c.args.self.now c.loop-left.self c.args.number c.loop-left.invariant.config (omega (arith, c.requires.number))) (subst (λ config. c.args.number < config.mutators) (sym c.loop-left.invariant.config) c.requires.number) shows tells in let list = ap length (c.list.ensures ∙ c.replies.ensures.replies) in (lt-leb _ _ (omega arith))) ∙ ap (λ must_wait. moves (turn scripts stage c.args.number) (control_after must_wait ++ replies c.args.number c.args.count ∷ [])) (waits ∙ ap waiting_of c.in-Again.is)) tasks from)
      (c.run_control-left.ensures.task (replies c.args.number c.args.count ∷ tasks) from));
}

pub loop-left-preserved : goal.loop-left-preserved
loop-left-preserved c = record {
  run = c.turn.ensures.run;
  config = c.turn.ensures.config ∙ c.loop-left.invariant.config;
  runs = λ tasks from.
      runs_then c.args.self.now c.loop-left.self c.turn.new.self c.args.work.now c.loop-left.work c.turn.new.work _ (agenda (replies c.args.number c.args.count ∷ tasks) from) (agenda (replies c.args.number c.args.count ∷ tasks) from) _ c.loop-left.left _ c.loop-left.invariant.config (c.loop-left.invariant.runs tasks from)
      (task_moves c.loop-left.self c.turn.new.self c.loop-left.work c.turn.new.work c.args.number c.turn.result (replies c.args.number c.args.count) (replies c.args.number c.args.count ∷ []) c.loop-left.left c.turn.ensures.notes c.turn.ensures.turned c.in_default.not-Idle c.loop-left-test.true
      (λ scripts stage shows tells waits. replies_move (config_of c.loop-left.self) scripts stage c.args.number c.args.count (let replies_told = given_told c.loop-left.self c.loop-left.work c.args.number scripts stage (plain_within c.args.self.now c.loop-left.self c.args.number c.loop-left.invariant.config (omega (arith, c.requires.number))) (subst (λ config. c.args.number < config.mutators) (sym c.loop-left.invariant.config) c.requires.number) shows tells in let list = ap length (c.list.ensures ∙ c.replies.ensures.replies) in (lt-leb _ _ (omega arith))) ∙ ap (λ must_wait. moves (turn scripts stage c.args.number) (control_after must_wait ++ replies c.args.number c.args.count ∷ [])) (waits ∙ waiting_not c.turn.result c.in_default.not-Again)) tasks from);
}

pub returns-else-list-count-clause-task : goal.returns-else-list-count-clause-task
returns-else-list-count-clause-task c = λ tasks from.
    runs_then c.args.self.now c.loop-left.self c.loop-left.self c.args.work.now c.loop-left.work c.loop-left.work _ (agenda (replies c.args.number c.args.count ∷ tasks) from) (agenda tasks from) _ c.loop-left.left _ c.loop-left.invariant.config (c.loop-left.invariant.runs tasks from)
    (task_done c.loop-left.self c.loop-left.work (replies c.args.number c.args.count) c.loop-left.left (λ scripts stage shows tells. replies_given (config_of c.loop-left.self) scripts stage c.args.number c.args.count (let replies_told = given_told c.loop-left.self c.loop-left.work c.args.number scripts stage (plain_within c.args.self.now c.loop-left.self c.args.number c.loop-left.invariant.config (omega (arith, c.requires.number))) (subst (λ config. c.args.number < config.mutators) (sym c.loop-left.invariant.config) c.requires.number) shows tells in let list = ap length (c.list.ensures ∙ c.replies.ensures.replies) in (le-leb _ _ (omega arith)))) tasks from)

pub returns-after-loop-left-clause-task : goal.returns-after-loop-left-clause-task
returns-after-loop-left-clause-task c = λ tasks from.
    runs_then c.args.self.now c.loop-left.self c.loop-left.self c.args.work.now c.loop-left.work c.loop-left.work _ (agenda (replies c.args.number c.args.count ∷ tasks) from) (agenda tasks from) _ c.loop-left.left _ c.loop-left.invariant.config (c.loop-left.invariant.runs tasks from)
    (runs_out c.loop-left.self c.loop-left.work _ _ c.loop-left.left (omega arith))

pub turn-requires-clause-run : goal.turn-requires-clause-run
turn-requires-clause-run c = c.loop-left.invariant.run

pub returns-in-Idle-clause-run : goal.returns-in-Idle-clause-run
returns-in-Idle-clause-run c = c.turn.ensures.run

pub returns-in-Idle-clause-config : goal.returns-in-Idle-clause-config
returns-in-Idle-clause-config c = c.turn.ensures.config ∙ c.loop-left.invariant.config

pub run_control-left-requires : goal.run_control-left-requires
run_control-left-requires c = c.turn.ensures.run

pub returns-else-list-count-clause-run : goal.returns-else-list-count-clause-run
returns-else-list-count-clause-run c = c.loop-left.invariant.run

pub returns-else-list-count-clause-config : goal.returns-else-list-count-clause-config
returns-else-list-count-clause-config c = c.loop-left.invariant.config

pub returns-after-loop-left-clause-run : goal.returns-after-loop-left-clause-run
returns-after-loop-left-clause-run c = c.loop-left.invariant.run

pub returns-after-loop-left-clause-config : goal.returns-after-loop-left-clause-config
returns-after-loop-left-clause-config c = c.loop-left.invariant.config
