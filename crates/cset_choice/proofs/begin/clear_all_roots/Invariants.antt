use Rattle.std.proofs.Common.{◌≡◌}
use Rattle.image_graph.specs.State.{config_of, memory_of}
use Rattle.cycle_words.specs.Evacuation.Begun.{cleared_in_turn, root_places}
use Rattle.cset_choice.proofs.begin.clear_all_roots.Given as goal

abbrev pub invariant-loop-mutator : goal.invariant-loop-mutator
invariant-loop-mutator loop = record {
  config : config_of loop.image ≡ config_of loop.fn.image;
  words : memory_of loop.image ≡ cleared_in_turn (config_of loop.fn.image) (memory_of loop.fn.image) (root_places loop.mutator);
}
