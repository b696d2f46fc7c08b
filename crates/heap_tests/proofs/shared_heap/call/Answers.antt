use Rattle.table_heap.proofs.Running.{still_of}
use Rattle.heap_tests.proofs.SharedHeap.{same_has}
use Rattle.heap_tests.proofs.shared_heap.call.Goals as goal

pub step-requires-clause-heap : goal.step-requires-clause-heap
step-requires-clause-heap c = still_of c.args.bundle.now c.loop.bundle c.args.heap.now c.loop.invariant c.requires.heap

pub step-requires-clause-here : goal.step-requires-clause-here
step-requires-clause-here c = same_has c.args.bundle.now c.loop.bundle 0 c.loop.invariant c.requires.here
