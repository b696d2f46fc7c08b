use Rattle.std.proofs.Common.{◌≡◌, take, None}
use Rattle.std.specs.Prelude.{replicate}
use Rattle.shen_graph.proofs.graph_text.make_null.Given as goal

abbrev pub invariant-loop-row : goal.invariant-loop-row
invariant-loop-row loop = take loop.row-index loop.roots ≡ replicate loop.row-index (replicate 16 None)
