use Rattle.std.proofs.Common.{◌≡◌, true}
use Rattle.shen_core.specs.State.{config_of, machine_at}
use Rattle.step_core.specs.Machines.{may_begin}
use Rattle.heap_tests.proofs.hints.make_calls.Given as goal

abbrev pub invariant-loop-command : goal.invariant-loop-command
invariant-loop-command g loop = record {
  config : config_of loop.plain ≡ config_of loop.fn.plain;
  rest : may_begin (machine_at loop.plain 0) ≡ true;
}
