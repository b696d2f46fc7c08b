use Rattle.table_heap.specs.State.{IsSameBundle}
use Rattle.heap_tests.proofs.shared_heap.call.Given as goal

abbrev pub invariant-loop : goal.invariant-loop
invariant-loop loop = IsSameBundle loop.fn.bundle loop.bundle
