use Rattle.std.proofs.Common.{◌≡◌}
use Rattle.image_graph.specs.State.{config_of, memory_of}
use Rattle.cycle_words.specs.Marking.Marks.{bits_of}
use Rattle.cycle_words.specs.Evacuation.Live.{live_words, is_candidate}
use Rattle.cycle_words.specs.Evacuation.Choice.{copy_limit}
use Rattle.cycle_words.specs.Evacuation.Front.{is_in_front}
use Rattle.cset_choice.proofs.choice.choose.Given as goal

abbrev pub invariant-loop-region : goal.invariant-loop-region
invariant-loop-region loop =
    loop.set ≡ bits_of (is_in_front (config_of loop.image).regions (copy_limit (config_of loop.image) (memory_of loop.image)) (live_words (config_of loop.image) (memory_of loop.image)) (is_candidate (config_of loop.image) (memory_of loop.image))) 0 loop.region
