use Rattle.std.proofs.Common.{◌≡◌}
use Rattle.image_graph.specs.State.{config_of, memory_of}
use Rattle.full_cycle.specs.Steps.{refused_below}
use Rattle.full_cycle.proofs.refuse.refuse.Given as goal

abbrev pub invariant-loop-mutator : goal.invariant-loop-mutator
invariant-loop-mutator loop = record {
  config : config_of loop.image ≡ config_of loop.fn.image;
  words : memory_of loop.image ≡ refused_below loop.mutator (memory_of loop.fn.image);
}
