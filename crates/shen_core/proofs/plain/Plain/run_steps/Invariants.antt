use Rattle.std.proofs.Common.{◌≡◌, ℕ, List, ◌∷◌}
use Rattle.step_core.specs.Schedule.{Task, steps}
use Rattle.shen_core.specs.State.{config_of}
use Rattle.shen_core.specs.Progress.{CanRun, agenda}
use Rattle.shen_core.specs.Noting.{RunsNoted}
use Rattle.shen_core.proofs.plain.Plain.run_steps.Given as goal

abbrev pub invariant-loop-wanted : goal.invariant-loop-wanted
invariant-loop-wanted loop = record {
  run : CanRun loop.self loop.work;
  config : config_of loop.self ≡ config_of loop.initial.self;
  runs : (tasks : List Task) (from : ℕ) → RunsNoted loop.initial.self loop.initial.work (agenda (steps loop.number loop.initial.wanted ∷ tasks) from) loop.initial.left loop.self loop.work (agenda (steps loop.number loop.wanted ∷ tasks) from) loop.left;
}

abbrev pub decreases-loop-wanted : goal.decreases-loop-wanted
decreases-loop-wanted loop = loop.wanted
