use Rattle.std.proofs.Common.{sym, ◌∙◌}
use Rattle.shen_graph.specs.Valid.{is_valid}
use Rattle.heap_seats.specs.Seats.{objects_made_by, state_in}
use Rattle.heap_seats.proofs.OrderRefusals.{refused_first, free_is, refused_range, refused_none}
use Rattle.heap_seats.proofs.seat.Seat.begin.Goals as goal

pub returns-in-Some-clause-refused : goal.returns-in-Some-clause-refused
returns-in-Some-clause-refused c = refused_first (is_valid c.args.command) (objects_made_by c.args.self.now) (state_in c.args.self.now) c.in-Some.refused (sym c.in-Some.is ∙ c.refuses.ensures)

pub returns-then-not-is_valid-clause-refused : goal.returns-then-not-is_valid-clause-refused
returns-then-not-is_valid-clause-refused c =
    let is_free = free_is (state_in c.args.self.now) (sym c.in_default.is ∙ c.refuses.ensures) in
    refused_range (is_valid c.args.command) (objects_made_by c.args.self.now) (state_in c.args.self.now) is_free (sym c.is_valid.ensures.test ∙ c.if-not-is_valid.true)

pub order_begin-requires-clause-free : goal.order_begin-requires-clause-free
order_begin-requires-clause-free c = free_is (state_in c.args.self.now) (sym c.in_default.is ∙ c.refuses.ensures)

pub returns-clause-refused : goal.returns-clause-refused
returns-clause-refused c =
    let is_free = free_is (state_in c.args.self.now) (sym c.in_default.is ∙ c.refuses.ensures) in
    refused_none (is_valid c.args.command) (objects_made_by c.args.self.now) (state_in c.args.self.now) is_free (sym c.is_valid.ensures.test ∙ c.if-not-is_valid.false) (λ count_full. c.if-made-eq4294967295.false (c.made.ensures ∙ count_full))
