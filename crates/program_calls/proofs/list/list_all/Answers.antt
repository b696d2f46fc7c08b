use Rattle.std.proofs.Common.{refl, ◌∙◌, arith}
use Rattle.shen_core.proofs.Going.{runs_none}
use Rattle.shen_core.proofs.Walking.{runs_more, runs_end}
use Rattle.program_calls.proofs.list.list_all.Goals as goal

pub loop-left-init : goal.loop-left-init
loop-left-init g c = record { run = c.requires.run; config = refl; walk = c.requires.walk; less = omega arith; runs = runs_none _ _ _ _ }

pub returns-in-None-clause-events : goal.returns-in-None-clause-events
returns-in-None-clause-events g c =
    runs_end c.args.plain.now c.loop-left.plain c.list_next.new.plain c.args.work.now c.loop-left.work c.list_next.new.work _ _ _ _ c.loop-left.left c.loop-left.invariant.config c.loop-left.invariant.runs c.in-None.ensures.next

pub loop-left-preserved : goal.loop-left-preserved
loop-left-preserved g c = record {
  run = c.list_next.ensures.run;
  config = c.list_next.ensures.config ∙ c.loop-left.invariant.config;
  walk = c.list_next.ensures.walk;
  less = (let lines_before = c.loop-left.invariant.less in omega arith);
  runs = runs_more c.args.plain.now c.loop-left.plain c.list_next.new.plain c.args.work.now c.loop-left.work c.list_next.new.work _ _ _ _ _ c.loop-left.left c.loop-left.invariant.config c.loop-left.invariant.runs
      c.in-Some.ensures.next (omega (arith, c.loop-left-test.true));
}
