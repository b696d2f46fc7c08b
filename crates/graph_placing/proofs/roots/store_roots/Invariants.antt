use Rattle.std.proofs.Common.{◌≡◌}
use Rattle.image_graph.specs.State.{config_of, memory_of}
use Rattle.graph_placing.specs.Writing.{all_roots_stored}
use Rattle.graph_placing.proofs.roots.store_roots.Given as goal

abbrev pub invariant-loop-mutator : goal.invariant-loop-mutator
invariant-loop-mutator loop = record {
  config : config_of loop.image ≡ config_of loop.initial.image;
  words : memory_of loop.image ≡ all_roots_stored (config_of loop.initial.image) loop.text loop.mutator (memory_of loop.initial.image);
}
