use Rattle.std.proofs.Common.{◌∙◌, arith}
use Rattle.heap_world.proofs.TakenDown.{last_among, IsMarked-pop}
use Rattle.heap_world.proofs.walk.forget.Goals as goal

pub overflow_sub-index : goal.overflow_sub-index
overflow_sub-index c =
    (last_among c.args.first c.loop-address.marks c.loop-address.order.items c.pop.new.self.items c.in-Some.address c.in-Some.ensures.items c.loop-address.invariant.marked).0

pub bounds-marks-index : goal.bounds-marks-index
bounds-marks-index c =
    let inside = last_among c.args.first c.loop-address.marks c.loop-address.order.items c.pop.new.self.items c.in-Some.address c.in-Some.ensures.items c.loop-address.invariant.marked in
    omega (arith, inside.0, inside.1)

pub loop-address-preserved : goal.loop-address-preserved
loop-address-preserved c = record {
  marked = IsMarked-pop c.args.first c.loop-address.marks c.loop-address.order.items c.pop.new.self.items c.in-Some.address c.in-Some.ensures.items c.loop-address.invariant.marked;
  room = c.pop.ensures.capacity ∙ c.loop-address.invariant.room;
}
