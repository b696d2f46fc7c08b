use Rattle.std.proofs.Common.{Some, sym, ◌∙◌, subst}
use Rattle.heap_seats.specs.Seats.{is_mutator}
use Rattle.covremuj.specs.Border.{BeginsBy}
use Rattle.covremuj.proofs.Orders.{begins_refused, begins_command}
use Rattle.covremuj.proofs.mutators.begin.Goals as goal

pub returns-in_default-Some : goal.returns-in_default-Some
returns-in_default-Some c =
    let seat = c.args.seat.now in
    subst (λ answer. BeginsBy (is_mutator seat) seat (Some seat) c.args.command answer) (sym c.of_refused.ensures)
    (begins_refused seat c.args.command c.in_default-Some.refused (sym c.is_mutator.ensures ∙ c.if-not-is_mutator.false) (sym c.in_default-Some.is-1 ∙ c.refuses.ensures))

pub returns-in-Some-None : goal.returns-in-Some-None
returns-in-Some-None c =
    let seat = c.args.seat.now in
    let begin_said = c.begin.ensures in
    subst (λ command. BeginsBy (is_mutator seat) seat (Some c.begin.new.self) command c.of_order.result) (sym c.in-Some-None.is-0)
    (begins_command seat c.begin.new.self c.in-Some-None.command c.begin.result c.of_order.result (sym c.is_mutator.ensures ∙ c.if-not-is_mutator.false) begin_said.refused begin_said.unchanged begin_said.ordered c.of_order.ensures)
