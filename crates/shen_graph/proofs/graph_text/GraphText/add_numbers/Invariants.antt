use Rattle.std.proofs.Common.{◌≡◌, ◌+◌, length, take}
use Rattle.shen_graph.specs.GraphText.{with_numbers}
use Rattle.shen_graph.proofs.graph_text.GraphText.add_numbers.Given as goal

abbrev pub invariant-loop-number : goal.invariant-loop-number
invariant-loop-number loop = record {
  rows : length loop.self.rows ≡ length loop.initial.self.rows;
  spare : loop.self.spare + loop.number-index ≡ loop.initial.self.spare;
  added : loop.self ≡ with_numbers loop.initial.self (take loop.number-index loop.numbers);
}
