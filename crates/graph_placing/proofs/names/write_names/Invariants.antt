use Rattle.std.proofs.Common.{◌≡◌, ◌≤◌, take}
use Rattle.image_graph.specs.Plot.{heap_end}
use Rattle.shen_graph.specs.GraphText.{names_of}
use Rattle.image_graph.specs.State.{config_of, memory_of}
use Rattle.graph_placing.specs.ByName.{end_behind}
use Rattle.graph_placing.specs.Renaming.{AreCountsOf}
use Rattle.graph_placing.specs.NamesRewritten.{names_written}
use Rattle.graph_placing.proofs.names.write_names.Given as goal

abbrev pub invariant-loop-row : goal.invariant-loop-row
invariant-loop-row loop = record {
  end : loop.end ≡ end_behind (config_of loop.initial.image) loop.text loop.row;
  within : loop.end ≤ heap_end (config_of loop.initial.image);
  config : config_of loop.image ≡ config_of loop.initial.image;
  words : memory_of loop.image ≡ names_written (config_of loop.initial.image) loop.text loop.row (memory_of loop.initial.image);
  counts : AreCountsOf (take loop.row (names_of loop.text)) (config_of loop.initial.image).mutators loop.counts;
}
