use Rattle.std.proofs.Common.{◌≡◌}
use Rattle.image_graph.specs.State.{config_of}
use Rattle.heap_tests.proofs.collections.put.Given as goal

abbrev pub invariant-loop-name : goal.invariant-loop-name
invariant-loop-name g loop = config_of loop.image ≡ loop.config
