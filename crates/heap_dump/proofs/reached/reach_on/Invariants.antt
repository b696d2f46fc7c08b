use Rattle.std.proofs.Common.{ℕ, ◌-◌, ◌<◌, ◌≤◌, length, get_or}
use Rattle.shen_graph.specs.GraphText.{row_of}
use Rattle.heap_dump.specs.RowsReached.{AreMarked, Grows, RowsAreReached}
use Rattle.heap_dump.proofs.reached.reach_on.Given as goal

abbrev pub invariant-rows : goal.invariant-rows
invariant-rows loop = record {
  reached : RowsAreReached loop.graph loop.reached.marks.items loop.reached.order.items;
  more : Grows loop.initial.reached.marks.items loop.initial.reached.order.items loop.reached.marks.items loop.reached.order.items;
  next : loop.next ≤ length loop.reached.order.items;
  done : (index : ℕ) → index < loop.next → AreMarked loop.graph loop.reached.marks.items (row_of loop.graph (get_or loop.reached.order.items index 0)).refs;
}

abbrev pub decreases-rows : goal.decreases-rows
decreases-rows loop = length loop.graph.rows - loop.next
