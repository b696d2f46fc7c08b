use Rattle.std.proofs.Common.{◌≡◌, ◌+◌, length, take}
use Rattle.shen_graph.specs.GraphText.{with_references}
use Rattle.shen_graph.proofs.object.put_references.Given as goal

abbrev pub invariant-loop-reference : goal.invariant-loop-reference
invariant-loop-reference loop = record {
  rows : length loop.text.rows ≡ length loop.initial.text.rows;
  spare : loop.text.spare + loop.reference-index ≡ loop.initial.text.spare;
  added : loop.text ≡ with_references loop.initial.text (take loop.reference-index loop.references);
}
