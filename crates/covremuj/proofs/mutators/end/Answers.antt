use Rattle.std.proofs.Common.{sym, ◌∙◌}
use Rattle.covremuj.proofs.Orders.{ends_taken}
use Rattle.covremuj.proofs.mutators.end.Goals as goal

pub returns : goal.returns
returns c =
    let finish_said = c.finish.ensures in
    ends_taken c.args.seat.now c.finish.new.self c.finish.result c.of_order.result (sym c.is_mutator.ensures ∙ c.if-not-is_mutator.false) finish_said.refused finish_said.unchanged finish_said.ordered c.of_order.ensures
