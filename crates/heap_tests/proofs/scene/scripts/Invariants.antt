use Rattle.std.proofs.Common.{◌≡◌, length, All}
use Rattle.shen_core.specs.Progress.{IsRunnable}
use Rattle.heap_tests.proofs.scene.scripts.Given as goal

abbrev pub invariant-loop-number : goal.invariant-loop-number
invariant-loop-number loop = All IsRunnable loop.scripts.items × (length loop.scripts.items ≡ loop.number)
