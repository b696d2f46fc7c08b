use Rattle.std.proofs.Common.{[], refl, ◌∙◌, arith}
use Rattle.shen_core.specs.Progress.{agenda}
use Rattle.shen_core.proofs.Noting.{runs_none, runs_then, ends_idle, ends_out, ends_then}
use Rattle.shen_core.proofs.plain.Plain.run_rounds.Goals as goal
use Rattle.shen_core.specs.declared.run.Ran.TheVariants.{Finished, Unfinished}

pub loop-left-init : goal.loop-left-init
loop-left-init c = record { run = c.requires; config = refl; runs = runs_none _ _ _ _ }

pub returns-then-any_next-clause-ends : goal.returns-then-any_next-clause-ends
returns-then-any_next-clause-ends c = ends_then c.args.self.now c.loop-left.self c.loop-left.self c.args.work.now c.loop-left.work c.loop-left.work (agenda [] 0) (agenda [] 0) c.args.limit c.loop-left.left Unfinished c.loop-left.invariant.config c.loop-left.invariant.runs
    (ends_out c.loop-left.self c.loop-left.work c.loop-left.left c.if-left-eq0.true (c.any_next.ensures.busy c.if-any_next.true c.loop-left.work))

pub returns-else-any_next-clause-ends : goal.returns-else-any_next-clause-ends
returns-else-any_next-clause-ends c = ends_then c.args.self.now c.loop-left.self c.loop-left.self c.args.work.now c.loop-left.work c.loop-left.work (agenda [] 0) (agenda [] 0) c.args.limit c.loop-left.left Finished c.loop-left.invariant.config c.loop-left.invariant.runs
    (ends_idle c.loop-left.self c.loop-left.work c.loop-left.left (c.any_next.ensures.idle c.if-any_next.false c.loop-left.work))

pub returns-then-left-before-clause-ends : goal.returns-then-left-before-clause-ends
returns-then-left-before-clause-ends c =
    ends_then c.args.self.now c.loop-left.self c.run_round-left.new.self c.args.work.now c.loop-left.work c.run_round-left.new.work (agenda [] 0) (agenda [] 0) c.args.limit c.loop-left.left Finished c.loop-left.invariant.config c.loop-left.invariant.runs
    (ends_then c.loop-left.self c.run_round-left.new.self c.run_round-left.new.self c.loop-left.work c.run_round-left.new.work c.run_round-left.new.work (agenda [] 0) (agenda [] 0) c.loop-left.left c.run_round-left.result Finished c.run_round-left.ensures.config c.run_round-left.ensures.round
    (ends_idle c.run_round-left.new.self c.run_round-left.new.work c.run_round-left.result (c.run_round-left.ensures.idle c.if-left-before.true (let some_left = c.if-left-eq0.false in omega arith))))

pub loop-left-preserved : goal.loop-left-preserved
loop-left-preserved c = record {
  run = c.run_pause-left.ensures.run;
  config = c.run_pause-left.ensures.config ∙ c.run_round-left.ensures.config ∙ c.loop-left.invariant.config;
  runs = runs_then c.args.self.now c.loop-left.self c.run_pause-left.new.self c.args.work.now c.loop-left.work c.run_round-left.new.work _ _ _ _ c.loop-left.left _ c.loop-left.invariant.config c.loop-left.invariant.runs
      (runs_then c.loop-left.self c.run_round-left.new.self c.run_pause-left.new.self c.loop-left.work c.run_round-left.new.work c.run_round-left.new.work _ _ _ _ c.run_round-left.result _ c.run_round-left.ensures.config c.run_round-left.ensures.round c.run_pause-left.ensures.rounds);
}
