use Rattle.std.proofs.Common.{◌≡◌, length, All}
use Rattle.shen_core.specs.Progress.{IsRunnable}
use Rattle.heap_tests.proofs.hints.in_range.Given as goal

abbrev pub invariant-loop-commands : goal.invariant-loop-commands
invariant-loop-commands loop = record {
  count : length loop.made.items ≡ loop.commands-index;
  runnable : All IsRunnable loop.made.items;
}
