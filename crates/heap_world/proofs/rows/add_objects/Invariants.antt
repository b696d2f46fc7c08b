use Rattle.std.proofs.Common.{◌≡◌, ◌+◌, ◌-◌, ◌++◌, map, take, sum_by}
use Rattle.heap_world.specs.Walk.{size_at}
use Rattle.heap_world.specs.Rows.{row_in_heap}
use Rattle.heap_world.proofs.rows.add_objects.Given as goal

abbrev pub invariant-loop-address : goal.invariant-loop-address
invariant-loop-address loop = record {
  rows : loop.text.rows ≡ loop.initial.text.rows ++ map (row_in_heap loop.first loop.heap) (take loop.address-index loop.order);
  roots : loop.text.roots ≡ loop.initial.text.roots;
  pins : loop.text.pins ≡ loop.initial.text.pins;
  room : loop.text.room ≡ loop.initial.text.room;
  spare : loop.text.spare + sum_by (λ address. size_at loop.heap (address - loop.first)) (take loop.address-index loop.order) ≡ loop.initial.text.spare;
}
