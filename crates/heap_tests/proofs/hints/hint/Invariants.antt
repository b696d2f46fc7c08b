use Rattle.std.proofs.Common.{◌≡◌}
use Rattle.shen_core.specs.State.{config_of, machine_at}
use Rattle.heap_tests.proofs.hints.hint.Given as goal

abbrev pub invariant-loop-hinted : goal.invariant-loop-hinted
invariant-loop-hinted g loop = record {
  config : config_of loop.plain ≡ config_of loop.fn.plain;
  mutator : machine_at loop.plain 0 ≡ machine_at loop.fn.plain 0;
}
