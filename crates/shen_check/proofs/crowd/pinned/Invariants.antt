use Rattle.std.proofs.Common.{◌≡◌, ◌+◌, ◌-◌, ◌≤◌, ◌++◌}
use Rattle.std.specs.List.{flat_map, range_with_len}
use Rattle.shen_graph.specs.PlainGraph.{graph_of}
use Rattle.shen_check.specs.JudgeState.{slot_held, pins_held}
use Rattle.shen_check.proofs.crowd.pinned.Given as goal

abbrev pub invariant-loop-thread : goal.invariant-loop-thread
invariant-loop-thread loop = record {
  held : loop.held.items ≡ pins_held (graph_of loop.graph) (loop.thread - 1);
  within : loop.thread ≤ loop.threads + 1;
}

abbrev pub invariant-loop-slot : goal.invariant-loop-slot
invariant-loop-slot loop = loop.held.items ≡ loop.initial.held.items ++ flat_map (λ slot. slot_held ((graph_of loop.graph).pin loop.thread slot)) (range_with_len 0 loop.slot)
