use Rattle.std.proofs.Common.{ℕ, ◌≡◌, ◌<◌, Some}
use Rattle.std.specs.Prelude.{slice_get}
use Rattle.shen_graph.specs.Graph.{Reference}
use Rattle.shen_graph.specs.GraphText.{row_of}
use Rattle.heap_dump.specs.RowsReached.{IsReachMarked, Grows, RowsAreReached}
use Rattle.heap_dump.proofs.reached.reach_fields.Given as goal

abbrev pub invariant-loop-index : goal.invariant-loop-index
invariant-loop-index loop = record {
  reached : RowsAreReached loop.graph loop.reached.marks.items loop.reached.order.items;
  more : Grows loop.initial.reached.marks.items loop.initial.reached.order.items loop.reached.marks.items loop.reached.order.items;
  done : (field : ℕ) (reference : Reference) → field < loop.index → slice_get (row_of loop.graph loop.row).refs field ≡ Some reference → IsReachMarked loop.graph loop.reached.marks.items reference;
}
