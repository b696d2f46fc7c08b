use Rattle.std.proofs.Common.{ℕ, ◌<◌}
use Rattle.shen_graph.specs.GraphText.{root_of}
use Rattle.heap_dump.specs.RowsReached.{IsReachMarked, Grows, RowsAreReached}
use Rattle.heap_dump.proofs.reached.reach_roots_of.Given as goal

abbrev pub invariant-loop-index : goal.invariant-loop-index
invariant-loop-index loop = record {
  reached : RowsAreReached loop.graph loop.reached.marks.items loop.reached.order.items;
  more : Grows loop.initial.reached.marks.items loop.initial.reached.order.items loop.reached.marks.items loop.reached.order.items;
  done : (index : ℕ) → index < loop.index → IsReachMarked loop.graph loop.reached.marks.items (root_of loop.graph loop.thread index);
}
