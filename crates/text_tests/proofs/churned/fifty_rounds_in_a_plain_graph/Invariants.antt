use Rattle.std.proofs.Common.{ℕ, ◌≡◌, ◌≤◌, ◌*◌}
use Rattle.shen_graph.specs.PlainGraph.{graph_of, threads_of}
use Rattle.text_tests.proofs.churned.fifty_rounds_in_a_plain_graph.Given as goal

abbrev pub invariant-loop-turn : goal.invariant-loop-turn
invariant-loop-turn g loop = record {
  threads : threads_of loop.plain ≡ 3;
  made : (thread : ℕ) → (graph_of loop.plain).count thread ≤ 402 * loop.turn;
}
