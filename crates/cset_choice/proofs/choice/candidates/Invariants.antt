use Rattle.std.proofs.Common.{◌≡◌}
use Rattle.image_graph.specs.State.{config_of, memory_of}
use Rattle.cycle_words.specs.Marking.Marks.{bits_of}
use Rattle.cycle_words.specs.Evacuation.Live.{is_candidate}
use Rattle.cset_choice.proofs.Choosing.{AreLiveBelow}
use Rattle.cset_choice.proofs.choice.candidates.Given as goal

abbrev pub invariant-loop-region : goal.invariant-loop-region
invariant-loop-region loop = record {
  live : AreLiveBelow (config_of loop.image) (memory_of loop.image) loop.live loop.region;
  set : loop.set ≡ bits_of (is_candidate (config_of loop.image) (memory_of loop.image)) 0 loop.region;
}
