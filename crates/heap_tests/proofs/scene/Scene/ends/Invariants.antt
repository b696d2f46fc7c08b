use Rattle.shen_core.specs.State.{config_of}
use Rattle.shen_core.specs.Progress.{CanRun}
use Rattle.shen_core.specs.Agendas.{IsWalkOf}
use Rattle.heap_tests.proofs.scene.Scene.ends.Given as goal

abbrev pub invariant-loop : goal.invariant-loop
invariant-loop loop = CanRun loop.self.plain loop.self.work × IsWalkOf (config_of loop.self.plain) loop.self.walk
