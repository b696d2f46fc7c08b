use Rattle.shen_core.specs.State.{config_of}
use Rattle.shen_core.specs.Progress.{CanRun}
use Rattle.shen_core.specs.Agendas.{IsWalkOf}
use Rattle.heap_tests.proofs.brief_pauses.Course.pauses.Given as goal

abbrev pub invariant-loop : goal.invariant-loop
invariant-loop loop = CanRun loop.self.played.plain loop.self.played.work × IsWalkOf (config_of loop.self.played.plain) loop.self.walk
