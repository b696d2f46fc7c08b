use Rattle.std.proofs.Common.{ℕ, ◌≡◌, ◌<◌, length}
use Rattle.std.specs.Prelude.{slice_index}
use Rattle.step_core.specs.Machines.{made_of_machine}
use Rattle.table_heap.specs.State.{machine_at}
use Rattle.heap_seats.proofs.renewing.count_made.Given as goal

abbrev pub invariant-loop-mutator : goal.invariant-loop-mutator
invariant-loop-mutator loop = (length loop.counts.items ≡ length loop.initial.counts.items) × ((mutator : ℕ) → mutator < loop.mutator → slice_index loop.counts.items mutator ≡ made_of_machine (machine_at loop.together mutator))
