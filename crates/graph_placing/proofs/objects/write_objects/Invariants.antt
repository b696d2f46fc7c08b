use Rattle.std.proofs.Common.{◌≡◌}
use Rattle.image_graph.specs.State.{config_of, memory_of}
use Rattle.graph_placing.specs.Writing.{rows_placed}
use Rattle.graph_placing.proofs.objects.write_objects.Given as goal

abbrev pub invariant-loop-row : goal.invariant-loop-row
invariant-loop-row loop = record {
  config : config_of loop.image ≡ config_of loop.initial.image;
  words : memory_of loop.image ≡ rows_placed (config_of loop.initial.image) loop.text loop.row;
}
