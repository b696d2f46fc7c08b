use Rattle.std.proofs.Common.{ap}
use Rattle.table_heap.proofs.Keeping.{takes, pops, known_still}
use Rattle.table_heap.proofs.hints.Hints.open.Goals as goal

pub pop_as-requires-clause-fifo : goal.pop_as-requires-clause-fifo
pop_as-requires-clause-fifo c = λ _. takes _ (ap (λ hints. hints.known) c.in_ok-worker.ensures) _ 1

pub pop_as-requires-clause-lifo : goal.pop_as-requires-clause-lifo
pop_as-requires-clause-lifo c = λ _. pops _ (ap (λ hints. hints.known) c.in_ok-worker.ensures) _

pub pop_as-requires-2-clause-fifo : goal.pop_as-requires-2-clause-fifo
pop_as-requires-2-clause-fifo c = λ _. takes _ (known_still _ _ c.pop_as.result _ _ c.in_ok-worker.ensures c.pop_as.ensures.rule) _ 1

pub pop_as-requires-2-clause-lifo : goal.pop_as-requires-2-clause-lifo
pop_as-requires-2-clause-lifo c = λ _. pops _ (known_still _ _ c.pop_as.result _ _ c.in_ok-worker.ensures c.pop_as.ensures.rule) _
