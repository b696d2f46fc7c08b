use Rattle.std.proofs.Common.{Some, None, sym, ap, ◌∙◌}
use Rattle.std.specs.Prelude.{if◌then◌else◌}
use Rattle.std.proofs.lemmas.Bool.{false≢true}
use Rattle.table_heap.specs.State.{order_at}
use Rattle.table_heap.proofs.Running.{same_bundle_more, still_of}
use Rattle.table_heap.proofs.Hinting.{after_hint, same_after, stepped_after, here_still}
use Rattle.table_heap.proofs.bundle.Bundle.go_on.Goals as goal

pub returns-then-not-order_next-clause-same : goal.returns-then-not-order_next-clause-same
returns-then-not-order_next-clause-same g c = c.order_next.ensures.unmoved.same

pub returns-then-not-order_next-clause-unchanged : goal.returns-then-not-order_next-clause-unchanged
returns-then-not-order_next-clause-unchanged g c = λ _. c.order_next.ensures.unchanged c.if-not-order_next.true

pub returns-then-not-order_next-clause-idle : goal.returns-then-not-order_next-clause-idle
returns-then-not-order_next-clause-idle g c = λ _.
    c.order_next.ensures.turn ∙ ap (λ has_turn. if has_turn then Some (order_at c.order_next.new.self c.args.number) else None) c.if-not-order_next.true

pub step-said-requires-clause-heap : goal.step-said-requires-clause-heap
step-said-requires-clause-heap g c =
    still_of c.args.self.now c.take_hint.new.self c.args.heap.now
    (same_bundle_more c.args.self.now c.order_next.new.self c.take_hint.new.self c.order_next.ensures.unmoved.same c.take_hint.ensures.unmoved.same) c.requires.heap

pub returns-clause-same : goal.returns-clause-same
returns-clause-same g c =
    same_bundle_more c.args.self.now c.step-said.new.self c.share_greyed.new.self
    (same_bundle_more c.args.self.now c.take_hint.new.self c.step-said.new.self
    (same_bundle_more c.args.self.now c.order_next.new.self c.take_hint.new.self c.order_next.ensures.unmoved.same c.take_hint.ensures.unmoved.same) c.step-said.ensures.same)
    (same_after c.step-said.new.self c.share_greyed.new.self c.share_greyed.ensures)

-- with its order it has a turn, and with a hint in place of none too
pub returns-clause-turn : goal.returns-clause-turn
returns-clause-turn g c = λ _.
    let turn_told = c.order_next.ensures.turn ∙ ap (λ has_turn. if has_turn then Some (order_at c.order_next.new.self c.args.number) else None) c.if-not-order_next.false in
    let hinted = after_hint c.args.self.now c.order_next.new.self c.take_hint.new.self c.args.next c.args.number c.requires.here c.order_next.ensures.unmoved c.take_hint.ensures.unmoved turn_told
    c.order_next.ensures.orders (c.order_next.ensures.has ∙ c.if-not-order_next.false) c.take_hint.ensures.order in
    record {
      ordered = c.take_hint.new.self;
      unmoved = hinted.unmoved;
      turn = hinted.turn;
      orders = hinted.orders;
      step = stepped_after c.take_hint.new.self c.step-said.new.self c.share_greyed.new.self c.args.number c.step-said.result c.share_greyed.ensures (c.step-said.ensures.event hinted.has);
    }

pub returns-clause-unchanged : goal.returns-clause-unchanged
returns-clause-unchanged g c = λ idle.
    let turn_told = c.order_next.ensures.turn ∙ ap (λ has_turn. if has_turn then Some (order_at c.order_next.new.self c.args.number) else None) c.if-not-order_next.false in
    let hinted = after_hint c.args.self.now c.order_next.new.self c.take_hint.new.self c.args.next c.args.number c.requires.here c.order_next.ensures.unmoved c.take_hint.ensures.unmoved turn_told
    c.order_next.ensures.orders (c.order_next.ensures.has ∙ c.if-not-order_next.false) c.take_hint.ensures.order in
    absurd (false≢true (sym (c.step-said.ensures.idle.0 idle) ∙ hinted.has))

pub returns-clause-idle : goal.returns-clause-idle
returns-clause-idle g c = λ idle.
    let turn_told = c.order_next.ensures.turn ∙ ap (λ has_turn. if has_turn then Some (order_at c.order_next.new.self c.args.number) else None) c.if-not-order_next.false in
    let hinted = after_hint c.args.self.now c.order_next.new.self c.take_hint.new.self c.args.next c.args.number c.requires.here c.order_next.ensures.unmoved c.take_hint.ensures.unmoved turn_told
    c.order_next.ensures.orders (c.order_next.ensures.has ∙ c.if-not-order_next.false) c.take_hint.ensures.order in
    absurd (false≢true (sym (c.step-said.ensures.idle.0 idle) ∙ hinted.has))

pub share_greyed-requires : goal.share_greyed-requires
share_greyed-requires g c = record {
  here = here_still c.take_hint.new.self c.step-said.new.self c.args.number c.step-said.ensures.same
      (here_still c.order_next.new.self c.take_hint.new.self c.args.number c.take_hint.ensures.unmoved.same
      (here_still c.args.self.now c.order_next.new.self c.args.number c.order_next.ensures.unmoved.same c.requires.here));
}
