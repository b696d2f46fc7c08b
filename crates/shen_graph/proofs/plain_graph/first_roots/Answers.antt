use Rattle.std.proofs.Common.{◌≡◌, ◌+◌, replicate, add-one, refl}
use Rattle.shen_graph.proofs.PlainLemmas.{first_roots}
use Rattle.shen_graph.proofs.plain_graph.first_roots.Goals as goal

pub returns : goal.returns
returns c =
    let filled : c.in_ok-roots.roots.items ≡ replicate (c.args.mutators + 1) first_roots = c.in_ok-roots.ensures in
    rw (filled, add-one) refl
