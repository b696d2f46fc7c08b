use Rattle.std.proofs.Common.{ap}
use Rattle.table_heap.proofs.Keeping.{takes}
use Rattle.table_heap.proofs.hints.Thief.steal.Goals as goal

pub steal_as-requires-clause-takes : goal.steal_as-requires-clause-takes
steal_as-requires-clause-takes c = takes _ (ap (λ hints. hints.known) c.args.self.now.known) _ 1
