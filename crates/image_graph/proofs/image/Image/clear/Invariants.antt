use Rattle.std.proofs.Common.{◌≡◌}
use Rattle.image_graph.specs.State.{config_of, memory_of}
use Rattle.image_graph.specs.Make.{heap_cleared}
use Rattle.image_graph.proofs.image.Image.clear.Given as goal

abbrev pub invariant-loop-index : goal.invariant-loop-index
invariant-loop-index loop = record {
  config : config_of loop.self ≡ config_of loop.fn.self;
  words : memory_of loop.self ≡ heap_cleared loop.address loop.index (memory_of loop.fn.self);
}
