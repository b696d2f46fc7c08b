use Rattle.std.proofs.Common.{◌<◌, ◌≤◌, ◌-◌, length}
use Rattle.shen_graph.specs.GraphText.{names_of}
use Rattle.graph_placing.specs.PlacedHeap.{place_among}
use Rattle.graph_placing.proofs.rows.row_of.Given as goal

abbrev pub invariant-loop-high : goal.invariant-loop-high
invariant-loop-high loop = (loop.low ≤ place_among (names_of loop.text) loop.name) × (place_among (names_of loop.text) loop.name < loop.high) × (loop.high ≤ length loop.text.rows)

abbrev pub decreases-loop-high : goal.decreases-loop-high
decreases-loop-high loop = loop.high - loop.low
