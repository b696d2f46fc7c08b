use Rattle.std.proofs.Common.{◌≡◌, [], map, drop, refl, ◌∙◌, subst}
use Rattle.step_core.specs.Schedule.{task_of}
use Rattle.shen_core.specs.Progress.{agenda}
use Rattle.std.proofs.lemmas.List.{drop_all}
use Rattle.shen_core.proofs.Noting.{runs_none, runs_then, ends_then, item_step}
use Rattle.shen_core.specs.Noting.{RunsNoted, EndsNoted}
use Rattle.shen_core.proofs.plain.Plain.run_agenda.Goals as goal

pub loop-item-init : goal.loop-item-init
loop-item-init c = record { run = c.requires.run; config = refl; runs = runs_none _ _ _ _ }

pub loop-item-preserved : goal.loop-item-preserved
loop-item-preserved c = record {
  run = c.run_item-left.ensures.run;
  config = c.run_item-left.ensures.config ∙ c.loop-item.invariant.config;
  runs = runs_then c.args.self.now c.loop-item.self c.run_item-left.new.self c.args.work.now c.loop-item.work c.run_item-left.new.work _ _ _ _ c.loop-item.left _ c.loop-item.invariant.config c.loop-item.invariant.runs
      (item_step c.loop-item.self c.run_item-left.new.self c.loop-item.work c.run_item-left.new.work c.list-item-items.result.now c.loop-item.item-index _ c.loop-item.left c.run_item-left.result c.loop-item-test.true c.run_item-left.ensures.task);
}

pub returns-clause-events : goal.returns-clause-events
returns-clause-events c =
    let none_left : drop c.loop-item.item-index c.list-item-items.result.now ≡ [] = drop_all _ _ c.loop-item-test.false in
    subst (λ items. EndsNoted c.args.self.now c.args.work.now (agenda (map task_of items) 0) c.args.steps c.run_rounds.new.self c.run_rounds.new.work c.run_rounds.result) c.list-item-items.ensures
    (ends_then c.args.self.now c.loop-item.self c.run_rounds.new.self c.args.work.now c.loop-item.work c.run_rounds.new.work _ (agenda [] 0) c.args.steps c.loop-item.left c.run_rounds.result c.loop-item.invariant.config
    (subst (λ items. RunsNoted c.args.self.now c.args.work.now (agenda (map task_of c.list-item-items.result.now) 0) c.args.steps c.loop-item.self c.loop-item.work (agenda (map task_of items) 0) c.loop-item.left) none_left c.loop-item.invariant.runs)
    c.run_rounds.ensures.ends)
