use Rattle.std.proofs.Common.{All}
use Rattle.shen_core.specs.Progress.{IsInSeats}
use Rattle.heap_tests.proofs.pins.schedule.Given as goal

abbrev pub invariant-loop-number : goal.invariant-loop-number
invariant-loop-number loop = All (IsInSeats loop.config) loop.schedule
