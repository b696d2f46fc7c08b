use Rattle.std.proofs.Common.{◌≡◌}
use Rattle.image_graph.specs.State.{config_of}
use Rattle.heap_tests.proofs.collections.lay.Given as goal

abbrev pub invariant-loop-base : goal.invariant-loop-base
invariant-loop-base g loop = config_of loop.image ≡ config_of loop.fn.image
