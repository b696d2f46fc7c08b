use Rattle.std.proofs.Common.{◌≡◌, map, drop}
use Rattle.step_core.specs.Schedule.{task_of}
use Rattle.shen_core.specs.State.{config_of}
use Rattle.shen_core.specs.Progress.{CanRun, agenda}
use Rattle.shen_core.specs.Noting.{RunsNoted}
use Rattle.shen_core.proofs.plain.Plain.run_agenda.Given as goal

abbrev pub invariant-loop-item : goal.invariant-loop-item
invariant-loop-item loop = record {
  run : CanRun loop.self loop.work;
  config : config_of loop.self ≡ config_of loop.initial.self;
  runs : RunsNoted loop.initial.self loop.initial.work (agenda (map task_of loop.item-items) 0) loop.initial.left loop.self loop.work (agenda (map task_of (drop loop.item-index loop.item-items)) 0) loop.left;
}
