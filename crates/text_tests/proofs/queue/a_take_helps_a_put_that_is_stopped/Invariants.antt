use Rattle.std.proofs.Common.{ℕ, ◌≡◌, ◌≤◌}
use Rattle.shen_graph.specs.PlainGraph.{graph_of, threads_of}
use Rattle.text_tests.proofs.queue.a_take_helps_a_put_that_is_stopped.Given as goal

abbrev pub invariant-loop-row : goal.invariant-loop-row
invariant-loop-row g loop = record {
  threads : threads_of loop.plain ≡ 2;
  made : (thread : ℕ) → (graph_of loop.plain).count thread ≤ loop.row-index;
}
