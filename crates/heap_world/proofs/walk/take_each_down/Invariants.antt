use Rattle.std.proofs.Common.{◌≡◌, length, take, vec_capacity}
use Rattle.heap_world.specs.Walk.{IsMarked, currents, with_addresses}
use Rattle.heap_world.proofs.walk.take_each_down.Given as goal

abbrev pub invariant-loop-word : goal.invariant-loop-word
invariant-loop-word locals = record {
  marked : IsMarked locals.first locals.marks locals.order.items;
  room : vec_capacity locals.order ≡ vec_capacity locals.initial.order;
  flags : length locals.marks ≡ length locals.initial.marks;
  taken : locals.order.items ≡ with_addresses locals.initial.order.items (currents locals.first locals.heap (take locals.word-index locals.words));
}
