use Rattle.std.proofs.Common.{◌≡◌, vec_len, vec_capacity}
use Rattle.heap_world.specs.Walk.{IsMarked}
use Rattle.heap_world.proofs.walk.forget.Given as goal

abbrev pub invariant-loop-address : goal.invariant-loop-address
invariant-loop-address locals = record {
  marked : IsMarked locals.first locals.marks locals.order.items;
  room : vec_capacity locals.order ≡ vec_capacity locals.fn.order;
}

abbrev pub decreases-loop-address : goal.decreases-loop-address
decreases-loop-address locals = vec_len locals.order
