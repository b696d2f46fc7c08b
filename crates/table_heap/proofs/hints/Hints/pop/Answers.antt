use Rattle.std.proofs.Common.{ap}
use Rattle.table_heap.proofs.Keeping.{takes, pops}
use Rattle.table_heap.proofs.hints.Hints.pop.Goals as goal

pub pop_as-requires-clause-fifo : goal.pop_as-requires-clause-fifo
pop_as-requires-clause-fifo c = λ _. takes _ (ap (λ hints. hints.known) c.args.self.now.known) _ 1

pub pop_as-requires-clause-lifo : goal.pop_as-requires-clause-lifo
pop_as-requires-clause-lifo c = λ _. pops _ (ap (λ hints. hints.known) c.args.self.now.known) _
