use Rattle.std.proofs.Common.{◌≡◌}
use Rattle.image_graph.specs.State.{config_of, memory_of}
use Rattle.degenerated.proofs.FreedSet.{left_below}
use Rattle.degenerated.proofs.cycle.free_set.Given as goal

abbrev pub invariant-loop-region : goal.invariant-loop-region
invariant-loop-region loop = record {
  config : config_of loop.image ≡ config_of loop.fn.image;
  words : memory_of loop.image ≡ left_below (config_of loop.fn.image) (memory_of loop.fn.image) loop.region;
}
