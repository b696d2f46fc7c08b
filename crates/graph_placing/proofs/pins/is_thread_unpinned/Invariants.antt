use Rattle.std.proofs.Common.{◌≡◌, ℕ, ◌<◌, None}
use Rattle.shen_graph.specs.GraphText.{pin_of}
use Rattle.graph_placing.proofs.pins.is_thread_unpinned.Given as goal

abbrev pub invariant-loop-slot : goal.invariant-loop-slot
invariant-loop-slot loop = (slot : ℕ) → slot < loop.slot → pin_of loop.text loop.thread slot ≡ None
