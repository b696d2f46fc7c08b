use Rattle.std.proofs.Common.{◌∙◌, arith}
use Rattle.churn.specs.Script.{churn_script}
use Rattle.churn.proofs.ScriptLemmas.{scripts_more, scripts_all}
use Rattle.churn.proofs.script.churn_scripts.Goals as goal

pub loop-thread-preserved : goal.loop-thread-preserved
loop-thread-preserved c =
    cc (scripts_more (churn_script c.args.seed c.args.count) c.loop-thread.thread (omega arith), c.in_ok-push.ensures.items, c.in_ok-churn_script.ensures, c.loop-thread.invariant)

pub returns : goal.returns
returns c = c.loop-thread.invariant ∙ scripts_all c.args.seed c.args.count c.loop-thread.thread (omega arith)
