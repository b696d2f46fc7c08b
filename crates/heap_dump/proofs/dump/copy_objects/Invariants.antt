use Rattle.std.proofs.Common.{◌≡◌, ◌+◌, ◌≤◌, ◌++◌, take, sum_by}
use Rattle.heap_dump.specs.Dumped.{row_words}
use Rattle.heap_dump.specs.RowsReached.{marked_rows}
use Rattle.heap_dump.proofs.dump.copy_objects.Given as goal

abbrev pub invariant-loop-row : goal.invariant-loop-row
invariant-loop-row loop = record {
  rows : loop.text.rows ≡ loop.initial.text.rows ++ marked_rows (take loop.row loop.marks) (take loop.row loop.graph.rows);
  roots : loop.text.roots ≡ loop.initial.text.roots;
  pins : loop.text.pins ≡ loop.initial.text.pins;
  spare : loop.initial.text.spare ≤ loop.text.spare + sum_by row_words (take loop.row loop.graph.rows);
}
