use Rattle.std.proofs.Common.{◌+◌, refl, ◌∙◌, arith}
use Rattle.shen_core.proofs.Going.{runs_none}
use Rattle.shen_core.proofs.Walking.{runs_on, runs_end}
use Rattle.shen_core.proofs.walk.Walk.skip.Goals as goal

pub loop-left-init : goal.loop-left-init
loop-left-init c = record { run = c.requires.run; config = refl; walk = c.requires.walk; less = omega arith; runs = λ more. runs_none _ _ _ _ }

pub returns-in-None-clause-events : goal.returns-in-None-clause-events
returns-in-None-clause-events c = λ more.
    runs_end c.args.plain.now c.loop-left.plain c.next.new.plain c.args.work.now c.loop-left.work c.next.new.work _ _ _ _ (c.loop-left.left + more) c.loop-left.invariant.config (c.loop-left.invariant.runs more) c.in-None.ensures.next

pub loop-left-preserved : goal.loop-left-preserved
loop-left-preserved c = record {
  run = c.next.ensures.run;
  config = c.next.ensures.config ∙ c.loop-left.invariant.config;
  walk = c.next.ensures.walk;
  less = (let before = c.loop-left.invariant.less in omega arith);
  runs = runs_on c.args.plain.now c.loop-left.plain c.next.new.plain c.args.work.now c.loop-left.work c.next.new.work _ _ _ _ _ c.loop-left.left c.loop-left.invariant.config c.loop-left.invariant.runs
      c.in-Some.ensures.next (omega (arith, c.loop-left-test.true));
}
