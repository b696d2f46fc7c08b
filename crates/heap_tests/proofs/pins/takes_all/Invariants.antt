use Rattle.std.proofs.Common.{ℕ, ◌≡◌, ◌≤◌}
use Rattle.shen_graph.specs.PlainGraph.{graph_of, threads_of}
use Rattle.heap_tests.proofs.pins.takes_all.Given as goal

abbrev pub invariant-loop-at : goal.invariant-loop-at
invariant-loop-at loop = record {
  threads : threads_of loop.graph ≡ 2;
  made : (thread : ℕ) → (graph_of loop.graph).count thread ≤ loop.at;
}
