use Rattle.std.proofs.Common.{arith}
use Rattle.covremuj.proofs.border.told_of.Goals as goal

pub overflow_add-result : goal.overflow_add-result
overflow_add-result c =
    let sizes = c.args.seat.now.config.in_range in
    omega (arith, c.number.ensures.inside, sizes.most_mutators, sizes.most_helpers)
