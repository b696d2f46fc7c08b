use Rattle.std.proofs.Common.{◌≡◌, ◌≢◌, ℕ}
use Rattle.shen_core.specs.State.{config_of, machine_at}
use Rattle.heap_tests.proofs.calls_step_by_step.call.Given as goal

abbrev pub invariant-loop : goal.invariant-loop
invariant-loop loop = record {
  config : config_of loop.plain ≡ config_of loop.fn.plain;
  others : (other_number : ℕ) → other_number ≢ loop.number → machine_at loop.plain other_number ≡ machine_at loop.fn.plain other_number;
}
