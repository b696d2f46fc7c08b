use Rattle.std.proofs.Common.{ℕ, ◌<◌}
use Rattle.image_graph.specs.State.{config_of, memory_of}
use Rattle.image_graph.specs.Laid.{IsRegionRight}
use Rattle.image_graph.proofs.rest.are_regions_right.Given as goal

abbrev pub invariant-loop-region : goal.invariant-loop-region
invariant-loop-region loop = (region : ℕ) → region < loop.region → IsRegionRight (config_of loop.image) (memory_of loop.image) loop.objects region
