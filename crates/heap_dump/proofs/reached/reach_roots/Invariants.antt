use Rattle.std.proofs.Common.{ℕ, ◌+◌, ◌<◌}
use Rattle.shen_graph.specs.GraphText.{root_of}
use Rattle.heap_dump.specs.RowsReached.{IsReachMarked, RowsAreReached}
use Rattle.heap_dump.proofs.reached.reach_roots.Given as goal

abbrev pub invariant-loop-mutator : goal.invariant-loop-mutator
invariant-loop-mutator loop = record {
  reached : RowsAreReached loop.graph loop.reached.marks.items loop.reached.order.items;
  done : (mutator index : ℕ) → mutator < loop.mutator → index < 16 → IsReachMarked loop.graph loop.reached.marks.items (root_of loop.graph (mutator + 1) index);
}
