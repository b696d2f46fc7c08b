use Rattle.std.proofs.Common.{◌≡◌}
use Rattle.shen_graph.specs.GraphText.{row_of}
use Rattle.image_graph.specs.State.{config_of, memory_of}
use Rattle.graph_placing.specs.ByName.{address_of}
use Rattle.graph_placing.specs.PlacedHeap.{word_for, words_of_object}
use Rattle.graph_placing.specs.Writing.{copied}
use Rattle.graph_placing.proofs.objects.write_object.Given as goal

abbrev pub invariant-loop-index : goal.invariant-loop-index
invariant-loop-index loop = record {
  config : config_of loop.image ≡ config_of loop.initial.image;
  words : memory_of loop.image ≡ copied (address_of (config_of loop.initial.image) loop.text loop.row) loop.index (words_of_object (word_for (config_of loop.initial.image) loop.text) (row_of loop.text loop.row)) (memory_of loop.initial.image);
}
