use Rattle.std.proofs.Common.{◌≡◌, take, None}
use Rattle.std.specs.Prelude.{replicate}
use Rattle.shen_graph.proofs.graph_text.make_empty.Given as goal

abbrev pub invariant-loop-row : goal.invariant-loop-row
invariant-loop-row loop = take loop.row-index loop.pins ≡ replicate loop.row-index (replicate 4 None)
