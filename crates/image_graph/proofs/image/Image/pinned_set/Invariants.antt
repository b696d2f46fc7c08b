use Rattle.std.proofs.Common.{◌≡◌}
use Rattle.image_graph.specs.Pinned.{is_pinned, set_of}
use Rattle.image_graph.specs.State.{config_of, memory_of}
use Rattle.image_graph.proofs.image.Image.pinned_set.Given as goal

abbrev pub invariant-loop-region : goal.invariant-loop-region
invariant-loop-region loop = loop.set ≡ set_of (is_pinned (config_of loop.self) (memory_of loop.self)) loop.region
