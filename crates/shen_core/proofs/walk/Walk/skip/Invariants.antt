use Rattle.std.proofs.Common.{◌≡◌, ◌≤◌}
use Rattle.shen_core.specs.State.{config_of}
use Rattle.shen_core.specs.Progress.{CanRun}
use Rattle.shen_core.specs.Agendas.{agenda_in, IsWalkOf}
use Rattle.shen_core.specs.Nexts.{RunsOn}
use Rattle.shen_core.proofs.walk.Walk.skip.Given as goal

abbrev pub invariant-loop-left : goal.invariant-loop-left
invariant-loop-left l = record {
  run : CanRun l.plain l.work;
  config : config_of l.plain ≡ config_of l.initial.plain;
  walk : IsWalkOf (config_of l.plain) l.self;
  less : l.left ≤ l.initial.left;
  runs : RunsOn l.initial.plain l.initial.work (agenda_in l.initial.self) l.initial.left l.plain l.work (agenda_in l.self) l.left;
}

abbrev pub decreases-loop-left : goal.decreases-loop-left
decreases-loop-left l = l.left
