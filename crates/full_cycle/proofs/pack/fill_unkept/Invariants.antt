use Rattle.std.proofs.Common.{◌≡◌}
use Rattle.image_graph.specs.State.{config_of, memory_of, found_of, marks_of, places_of}
use Rattle.full_cycle.proofs.FilledRegions.{unkept_filled}
use Rattle.full_cycle.proofs.pack.fill_unkept.Given as goal

abbrev pub invariant-loop-region : goal.invariant-loop-region
invariant-loop-region loop = record {
  config : config_of loop.image ≡ config_of loop.fn.image;
  places : places_of loop.image ≡ places_of loop.fn.image;
  found : found_of loop.image ≡ found_of loop.fn.image;
  marks : marks_of loop.image ≡ marks_of loop.fn.image;
  words : memory_of loop.image ≡ unkept_filled (config_of loop.fn.image) (memory_of loop.fn.image) (found_of loop.fn.image) loop.region;
}
