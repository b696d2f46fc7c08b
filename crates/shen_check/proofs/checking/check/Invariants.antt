use Rattle.std.proofs.Common.{take}
use Rattle.shen_check.specs.Judged.{FollowUpTo}
use Rattle.shen_check.specs.JudgeState.{HasJudged}
use Rattle.shen_check.proofs.checking.check.Given as goal

abbrev pub invariant-loop-at : goal.invariant-loop-at
invariant-loop-at locals = record {
  judged : HasJudged locals.trace.scripts (take locals.at locals.history.list) locals.judge.graph locals.judge.work;
  follow : FollowUpTo locals.trace.config locals.trace.scripts locals.history.list locals.at;
}
