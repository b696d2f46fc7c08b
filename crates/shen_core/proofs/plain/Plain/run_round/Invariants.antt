use Rattle.std.proofs.Common.{◌≡◌, ◌<◌, ◌≤◌, ℕ, [], None}
use Rattle.heap_words.specs.Steps.{Stage}
use Rattle.step_core.specs.Actor.{Actor}
use Rattle.step_core.specs.Schedule.{Scripts, turn}
use Rattle.shen_core.specs.State.{config_of, Shows}
use Rattle.shen_core.specs.Progress.{CanRun, Tells, agenda}
use Rattle.shen_core.specs.Noting.{RunsNoted}
use Rattle.shen_core.proofs.plain.Plain.run_round.Given as goal

abbrev pub invariant-loop-number : goal.invariant-loop-number
invariant-loop-number loop = record {
  run : CanRun loop.self loop.work;
  config : config_of loop.self ≡ config_of loop.initial.self;
  less : loop.left ≤ loop.initial.left;
  runs : RunsNoted loop.initial.self loop.initial.work (agenda [] 0) loop.initial.left loop.self loop.work (agenda [] loop.number) loop.left;
  idle : loop.left ≡ loop.initial.left → (scripts : Scripts) (stage : Stage Actor) → Shows loop.self stage → Tells (config_of loop.self) scripts loop.work stage → (number : ℕ) → number < loop.number → turn scripts stage number ≡ None;
}
