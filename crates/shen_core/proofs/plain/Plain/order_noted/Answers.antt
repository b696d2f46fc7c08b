use Rattle.std.proofs.Common.{subst}
use Rattle.shen_core.specs.State.{order_at}
use Rattle.shen_core.specs.Progress.{IsTurn}
use Rattle.shen_core.proofs.Noting.{turn_noted, turn_none}
use Rattle.shen_core.proofs.plain.Plain.order_noted.Goals as goal

pub returns-then-has-clause-notes : goal.returns-then-has-clause-notes
returns-then-has-clause-notes c =
    let has_told = c.order_next-has.ensures in
    let mid = c.order_next-has.new.self in
    turn_noted c.args.self.now mid c.note_next.new.self c.args.work.now c.args.number has_told.config has_told.words has_told.machines has_told.notes
    (subst (λ has_turn. IsTurn c.args.self.now c.args.work.now c.args.number has_turn (order_at mid c.args.number)) c.if-has.true has_told.turn) c.note_next.ensures.notes

pub returns-else-has-clause-notes : goal.returns-else-has-clause-notes
returns-else-has-clause-notes c =
    let has_told = c.order_next-has.ensures in
    let mid = c.order_next-has.new.self in
    turn_none c.args.self.now mid c.args.work.now c.args.number (order_at mid c.args.number)
    (subst (λ has_turn. IsTurn c.args.self.now c.args.work.now c.args.number has_turn (order_at mid c.args.number)) c.if-has.false has_told.turn) has_told.notes
