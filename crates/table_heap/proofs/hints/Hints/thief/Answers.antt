use Rattle.std.proofs.Common.{ap}
use Rattle.table_heap.proofs.Keeping.{forks}
use Rattle.table_heap.proofs.hints.Hints.thief.Goals as goal

pub another-pass-requires : goal.another-pass-requires
another-pass-requires c = forks _ (ap (λ hints. hints.known) c.args.self.now.known) _
