use Rattle.std.proofs.Common.{ℕ, ◌≡◌, ◌-◌, ◌<◌, ◌≤◌, [], None, length, get_or}
use Rattle.shen_graph.specs.Step.{name_in}
use Rattle.shen_graph.proofs.plain_graph.PlainGraph.put_pins.Given as goal

abbrev pub invariant-loop-thread : goal.invariant-loop-thread
invariant-loop-thread loop = record {
  kept : loop.text ≡ record loop.initial.text { pins = loop.text.pins };
  count : length loop.text.pins ≡ length loop.initial.text.pins;
  done : (thread slot : ℕ) → 1 ≤ thread → thread < loop.thread → get_or (get_or loop.text.pins (thread - 1) []) slot None ≡ name_in (get_or (get_or loop.self.pins thread []) slot None);
}
