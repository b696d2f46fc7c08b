use Rattle.std.proofs.Common.{ap, subst, sym, arith}
use Rattle.table_heap.specs.Rule.{IsBetween}
use Rattle.table_heap.proofs.Keeping.{adds}
use Rattle.table_heap.proofs.hints.Hints.push.Goals as goal

pub push_as-refused-requires-clause-pushes : goal.push_as-refused-requires-clause-pushes
push_as-refused-requires-clause-pushes c =
    let known_hints = c.args.self.now.known in
    let asked = c.requires in
    adds _ (ap (λ hints. hints.known) known_hints) _ c.args.address (subst (λ hints. IsBetween hints c.args.address) (sym known_hints) (omega (arith, asked), omega (arith, asked)))
