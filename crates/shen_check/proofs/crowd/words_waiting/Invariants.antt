use Rattle.std.proofs.Common.{◌≡◌, ◌*◌, ◌^◌, ◌≤◌, sum_by}
use Rattle.std.specs.List.{range_with_len}
use Rattle.shen_check.specs.JudgeState.{words_beside}
use Rattle.shen_check.proofs.crowd.words_waiting.Given as goal

abbrev pub invariant-loop-mutator : goal.invariant-loop-mutator
invariant-loop-mutator loop = record {
  sum : loop.words ≡ sum_by (words_beside loop.work loop.thread) (range_with_len 0 loop.mutator);
  few : loop.words ≤ loop.mutator * 2 ^ 40;
}
