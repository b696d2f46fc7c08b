use Rattle.std.proofs.Common.{◌≡◌, ◌≤◌}
use Rattle.shen_core.specs.State.{config_of}
use Rattle.shen_core.specs.Progress.{CanRun, Runs}
use Rattle.shen_core.specs.Agendas.{agenda_in, IsWalkOf}
use Rattle.program_calls.proofs.list.list_all.Given as goal

abbrev pub invariant-loop-left : goal.invariant-loop-left
invariant-loop-left g loop = record {
  run : CanRun loop.plain loop.work;
  config : config_of loop.plain ≡ config_of loop.initial.plain;
  walk : IsWalkOf (config_of loop.plain) loop.walk;
  less : loop.left ≤ loop.initial.left;
  runs : Runs loop.initial.plain loop.initial.work (agenda_in loop.initial.walk) loop.initial.left loop.plain loop.work (agenda_in loop.walk) loop.left;
}

abbrev pub decreases-loop-left : goal.decreases-loop-left
decreases-loop-left g loop = loop.left
