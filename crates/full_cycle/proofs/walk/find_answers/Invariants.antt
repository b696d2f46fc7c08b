use Rattle.std.proofs.Common.{◌≡◌}
use Rattle.heap_world.specs.Walk.{with_addresses}
use Rattle.image_graph.specs.Full.{copies_of, answers_below}
use Rattle.image_graph.specs.State.{memory_of, found_of, AreFound, IsUnchanged}
use Rattle.full_cycle.proofs.walk.find_answers.Given as goal

abbrev pub invariant-loop-mutator : goal.invariant-loop-mutator
invariant-loop-mutator loop = record {
  unchanged : IsUnchanged loop.fn.image loop.image;
  found : AreFound loop.image;
  noted : found_of loop.image ≡ with_addresses (found_of loop.fn.image) (copies_of (memory_of loop.fn.image) (answers_below (memory_of loop.fn.image) loop.mutator));
}
