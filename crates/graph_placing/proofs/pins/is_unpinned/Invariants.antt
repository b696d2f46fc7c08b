use Rattle.std.proofs.Common.{◌≡◌, ℕ, ◌<◌, ◌≤◌, None}
use Rattle.shen_graph.specs.GraphText.{pin_of}
use Rattle.graph_placing.proofs.pins.is_unpinned.Given as goal

abbrev pub invariant-loop-mutator : goal.invariant-loop-mutator
invariant-loop-mutator loop = (thread slot : ℕ) → 1 ≤ thread → thread ≤ loop.mutator → slot < 4 → pin_of loop.text thread slot ≡ None
