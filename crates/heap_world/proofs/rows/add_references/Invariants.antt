use Rattle.std.proofs.Common.{◌≡◌, ◌+◌, length, map, take}
use Rattle.shen_graph.specs.GraphText.{with_references}
use Rattle.heap_world.specs.Rows.{reference_in}
use Rattle.heap_world.proofs.rows.add_references.Given as goal

abbrev pub invariant-loop-word : goal.invariant-loop-word
invariant-loop-word loop = record {
  rows : length loop.text.rows ≡ length loop.initial.text.rows;
  spare : loop.text.spare + loop.word-index ≡ loop.initial.text.spare;
  added : loop.text ≡ with_references loop.initial.text (map (reference_in loop.first loop.heap) (take loop.word-index loop.words));
}
