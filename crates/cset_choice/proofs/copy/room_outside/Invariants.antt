use Rattle.std.proofs.Common.{ℕ, ◌+◌, ◌<◌}
use Rattle.heap_words.specs.Words.{Cset, Top}
use Rattle.image_graph.specs.State.{config_of, memory_of}
use Rattle.cycle_words.specs.Evacuation.Copying.{tops_outside}
use Rattle.cset_choice.proofs.copy.room_outside.Given as goal

abbrev pub invariant-loop-region : goal.invariant-loop-region
invariant-loop-region loop =
    (earlier_region : ℕ) → earlier_region < loop.region → (config_of loop.image).region_words < tops_outside (config_of loop.image).region_words (memory_of loop.image Cset) (λ region. memory_of loop.image (Top region)) earlier_region + loop.words
