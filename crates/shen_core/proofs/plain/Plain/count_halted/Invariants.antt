use Rattle.std.proofs.Common.{◌≤◌}
use Rattle.shen_core.specs.Halted.{AreHalted}
use Rattle.shen_core.proofs.plain.Plain.count_halted.Given as goal

abbrev pub invariant-loop-number : goal.invariant-loop-number
invariant-loop-number loop = record {
  halted : AreHalted loop.self loop.number loop.waiting;
  few : loop.waiting ≤ loop.number;
}
