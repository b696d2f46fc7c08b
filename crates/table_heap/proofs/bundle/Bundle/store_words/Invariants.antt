use Rattle.std.proofs.Common.{◌≡◌, ◌<◌, ℕ}
use Rattle.heap_machines.specs.Inside.{stores_left}
use Rattle.table_heap.specs.State.{config_in, machine_at, HasMachine}
use Rattle.table_heap.specs.Turning.{HasHadTurns}
use Rattle.table_heap.proofs.bundle.Bundle.store_words.Given as goal

abbrev pub invariant-loop-left : goal.invariant-loop-left
invariant-loop-left g locals = record {
  turns : (count : ℕ) × HasHadTurns count locals.initial.self locals.self locals.number;
  here : 0 < locals.left → HasMachine locals.self locals.number;
  left : 0 < locals.left → locals.left ≡ stores_left (config_in locals.self) (machine_at locals.self locals.number);
}

abbrev pub decreases-loop-left : goal.decreases-loop-left
decreases-loop-left g locals = locals.left
