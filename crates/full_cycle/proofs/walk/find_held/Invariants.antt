use Rattle.std.proofs.Common.{◌≡◌, ◌≤◌, ◌-◌}
use Rattle.heap_words.specs.Words.{heap_size}
use Rattle.image_graph.specs.State.{config_of, memory_of, found_of, AreFound, IsUnchanged}
use Rattle.full_cycle.specs.Collect.{found_in_turns}
use Rattle.full_cycle.proofs.walk.find_held.Given as goal

abbrev pub invariant-loop-address : goal.invariant-loop-address
invariant-loop-address loop = record {
  unchanged : IsUnchanged loop.fn.image loop.image;
  found : AreFound loop.image;
  turns : found_of loop.image ≡ found_in_turns (config_of loop.fn.image) (memory_of loop.fn.image) loop.turn;
  few : loop.turn ≤ heap_size (config_of loop.fn.image);
}

abbrev pub decreases-loop-address : goal.decreases-loop-address
decreases-loop-address loop = heap_size (config_of loop.fn.image) - loop.turn
