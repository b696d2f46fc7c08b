use Rattle.std.proofs.Common.{◌+◌, sym, ap, ◌∙◌, subst, arith}
use mathlib.Core.List.{reverse}
use Rattle.std.specs.Arc.{arc_value}
use Rattle.table_heap.specs.declared.heap.Heap.{Heap}
use Rattle.table_heap.specs.State.{start_of_heap, IsFresh}
use Rattle.heap_seats.specs.Histories.{BeginsRenewable}
use Rattle.heap_seats.proofs.Opened.{dealt_in, Opens, opens_first, last_fresh, opens_next}
use Rattle.heap_seats.proofs.opening.seated.Goals as goal

pub loop-number-init : goal.loop-number-init
loop-number-init c =
    let config = c.args.config in
    let shared_heap = arc_value c.in-Ok.heap in
    subst (λ bundles. Opens config shared_heap bundles c.in-Ok-with_capacity.seats.items 0) (sym c.reverse.ensures.items)
    (subst (λ seats. Opens config shared_heap (reverse c.args.bundles.items) seats 0) (sym c.in-Ok-with_capacity.ensures.items)
    (opens_first config shared_heap c.args.bundles.items c.requires.count
    (λ index bundle bundle_there. subst (λ (heap : Heap). IsFresh heap bundle (dealt_in config (start_of_heap heap) index)) (sym c.in-Ok.ensures.ok) (c.requires.bundles index bundle bundle_there))))

pub unreachable-requires : goal.unreachable-requires
unreachable-requires c =
    let loop = c.loop-number in
    omega (arith, loop.invariant.count, c.loop-number-test.true, c.in_default-pop.ensures.cases.0, loop.bundles.ok.0, c.seats-number-end.ensures)

pub open-requires-clause-fresh : goal.open-requires-clause-fresh
open-requires-clause-fresh c =
    last_fresh c.args.config (arc_value c.in-Ok.heap) c.loop-number.bundles.items c.pop.new.self.items c.in-Some.bundle c.loop-number.seats.items c.loop-number.number c.loop-number.invariant c.in-Some.ensures.items

pub open-requires-clause-begins : goal.open-requires-clause-begins
open-requires-clause-begins c = subst (λ (heap : Heap). ∥ BeginsRenewable c.args.config (start_of_heap heap) ∥₁) (sym c.in-Ok.ensures.ok) c.requires.begins

pub loop-number-preserved : goal.loop-number-preserved
loop-number-preserved c =
    let loop = c.loop-number in
    let heap = arc_value c.in-Ok.heap in
    subst (λ seats. Opens c.args.config heap c.pop.new.self.items seats (loop.number + 1)) (sym c.in-Ok-push.ensures.items)
    (opens_next c.args.config heap loop.bundles.items c.pop.new.self.items c.in-Some.bundle loop.seats.items c.in_ok-seat.seat loop.number loop.invariant c.in-Some.ensures.items c.in_ok-seat.ensures)

pub returns : goal.returns
returns c =
    let loop = c.loop-number in
    record {
      heap = arc_value c.in-Ok.heap;
      begins = ap (λ (heap : Heap). start_of_heap heap) c.in-Ok.ensures.ok;
      count = loop.invariant.long ∙ omega (arith, c.loop-number-test.false, loop.auto.number-end, c.seats-number-end.ensures);
      each = loop.invariant.each;
    }
