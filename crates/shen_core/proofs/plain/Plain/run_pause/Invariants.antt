use Rattle.std.proofs.Common.{◌≡◌, ◌≤◌, []}
use Rattle.shen_core.specs.State.{config_of}
use Rattle.shen_core.specs.Progress.{CanRun, agenda}
use Rattle.shen_core.specs.Noting.{RunsNoted}
use Rattle.shen_core.specs.Halted.{AreHalted, words_left}
use Rattle.shen_core.proofs.plain.Plain.run_pause.Given as goal

abbrev pub invariant-loop-left : goal.invariant-loop-left
invariant-loop-left loop = record {
  run : CanRun loop.self loop.work;
  config : config_of loop.self ≡ config_of loop.initial.self;
  less : loop.left ≤ loop.initial.left;
  halted : AreHalted loop.self loop.control loop.waiting;
  words : loop.words ≡ words_left loop.self loop.control;
  runs : RunsNoted loop.initial.self loop.work (agenda [] 0) loop.initial.left loop.self loop.work (agenda [] 0) loop.left;
}

abbrev pub decreases-loop-left : goal.decreases-loop-left
decreases-loop-left loop = loop.left
