use Rattle.std.proofs.Common.{ℕ, ◌≡◌, ◌-◌, ◌<◌, ◌≤◌, [], length, get_or}
use Rattle.shen_graph.proofs.plain_graph.PlainGraph.put_roots.Given as goal

abbrev pub invariant-loop-thread : goal.invariant-loop-thread
invariant-loop-thread loop = record {
  kept : loop.text ≡ record loop.initial.text { roots = loop.text.roots };
  count : length loop.text.roots ≡ length loop.initial.text.roots;
  done : (thread : ℕ) → 1 ≤ thread → thread < loop.thread → get_or loop.text.roots (thread - 1) [] ≡ get_or loop.self.roots thread [];
}
