use Rattle.std.proofs.Common.{◌≡◌}
use Rattle.image_graph.specs.State.{config_of, memory_of}
use Rattle.graph_placing.specs.Writing.{roots_stored}
use Rattle.graph_placing.proofs.roots.store_roots_of.Given as goal

abbrev pub invariant-loop-index : goal.invariant-loop-index
invariant-loop-index loop = record {
  config : config_of loop.image ≡ config_of loop.initial.image;
  words : memory_of loop.image ≡ roots_stored (config_of loop.initial.image) loop.text loop.mutator loop.index (memory_of loop.initial.image);
}
