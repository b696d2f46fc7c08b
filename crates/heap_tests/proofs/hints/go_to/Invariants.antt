use Rattle.std.proofs.Common.{◌≡◌}
use Rattle.shen_core.specs.State.{config_of, machine_at}
use Rattle.heap_tests.proofs.hints.go_to.Given as goal

abbrev pub invariant-loop : goal.invariant-loop
invariant-loop g loop = record {
  config : config_of loop.plain ≡ config_of loop.fn.plain;
  mutator : machine_at loop.plain 0 ≡ machine_at loop.fn.plain 0;
}
