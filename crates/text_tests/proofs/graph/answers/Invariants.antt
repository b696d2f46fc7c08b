use Rattle.std.proofs.Common.{ℕ, ◌≡◌, ◌≤◌, ◌+◌}
use Rattle.shen_graph.specs.PlainGraph.{graph_of, threads_of}
use Rattle.text_tests.proofs.graph.answers.Given as goal

abbrev pub invariant-loop-command : goal.invariant-loop-command
invariant-loop-command g loop = record {
  threads : threads_of loop.plain ≡ threads_of loop.initial.plain;
  made : (thread : ℕ) → (graph_of loop.plain).count thread ≤ (graph_of loop.initial.plain).count thread + loop.command-index;
}
