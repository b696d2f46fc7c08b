use Rattle.std.proofs.Common.{◌≡◌, ◌+◌, length, take}
use Rattle.shen_graph.specs.GraphText.{row_of, with_numbers}
use Rattle.heap_dump.proofs.dump.copy_numbers.Given as goal

abbrev pub invariant-loop-index : goal.invariant-loop-index
invariant-loop-index loop = record {
  rows : length loop.text.rows ≡ length loop.initial.text.rows;
  spare : loop.text.spare + loop.index ≡ loop.initial.text.spare;
  added : loop.text ≡ with_numbers loop.initial.text (take loop.index (row_of loop.graph loop.row).nums);
}
