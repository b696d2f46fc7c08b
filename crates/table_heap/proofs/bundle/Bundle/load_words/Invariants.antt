use Rattle.std.proofs.Common.{◌≡◌, ◌<◌, ℕ}
use Rattle.heap_machines.specs.Inside.{loads_left}
use Rattle.table_heap.specs.State.{config_in, machine_at, HasMachine}
use Rattle.table_heap.specs.Turning.{HasHadTurns}
use Rattle.table_heap.proofs.bundle.Bundle.load_words.Given as goal

abbrev pub invariant-loop-left : goal.invariant-loop-left
invariant-loop-left g loop = record {
  turns : (count : ℕ) × HasHadTurns count loop.initial.self loop.self loop.number;
  here : 0 < loop.left → HasMachine loop.self loop.number;
  left : 0 < loop.left → loop.left ≡ loads_left (config_in loop.self) (machine_at loop.self loop.number);
}

abbrev pub decreases-loop-left : goal.decreases-loop-left
decreases-loop-left g loop = loop.left
