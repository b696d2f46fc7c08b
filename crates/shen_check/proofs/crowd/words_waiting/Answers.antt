use Rattle.std.proofs.Common.{arith}
use Rattle.shen_check.specs.JudgeState.{words_beside}
use Rattle.shen_check.proofs.LiveSums.{sum_more}
use Rattle.shen_check.proofs.crowd.words_waiting.Goals as goal

pub loop-mutator-preserved : goal.loop-mutator-preserved
loop-mutator-preserved c =
    let mutator = c.loop-mutator.mutator in
    let sum_grows = sum_more (words_beside c.args.work.now c.args.thread) 0 mutator mutator (omega arith) in
    record {
      sum = omega (arith, sum_grows, c.loop-mutator.invariant.sum, c.words_beside-words.ensures.words);
      few = omega (arith, c.loop-mutator.invariant.few, c.words_beside-words.ensures.few);
    }
