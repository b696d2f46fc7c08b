use Rattle.std.proofs.Common.{◌≡◌, ◌+◌, length, take}
use Rattle.shen_graph.specs.GraphText.{row_of, with_references}
use Rattle.heap_dump.proofs.dump.copy_references.Given as goal

abbrev pub invariant-loop-index : goal.invariant-loop-index
invariant-loop-index loop = record {
  rows : length loop.text.rows ≡ length loop.initial.text.rows;
  spare : loop.text.spare + loop.index ≡ loop.initial.text.spare;
  added : loop.text ≡ with_references loop.initial.text (take loop.index (row_of loop.graph loop.row).refs);
}
