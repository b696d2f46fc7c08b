use Rattle.std.proofs.Common.{◌≡◌, ℕ, List, ◌∷◌}
use Rattle.step_core.specs.Schedule.{Task, until}
use Rattle.shen_core.specs.State.{config_of}
use Rattle.shen_core.specs.Progress.{CanRun, agenda}
use Rattle.shen_core.specs.Noting.{RunsNoted}
use Rattle.shen_core.proofs.plain.Plain.run_until.Given as goal

abbrev pub invariant-loop-left : goal.invariant-loop-left
invariant-loop-left loop = record {
  run : CanRun loop.self loop.work;
  config : config_of loop.self ≡ config_of loop.initial.self;
  runs : (tasks : List Task) (from : ℕ) → RunsNoted loop.initial.self loop.initial.work (agenda (until loop.number loop.place ∷ tasks) from) loop.initial.left loop.self loop.work (agenda (until loop.number loop.place ∷ tasks) from) loop.left;
}

abbrev pub decreases-loop-left : goal.decreases-loop-left
decreases-loop-left loop = loop.left
