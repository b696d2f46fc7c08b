use Rattle.std.proofs.Common.{◌≡◌}
use Rattle.heap_words.specs.Words.{Top}
use Rattle.image_graph.specs.Full.{empty_regions}
use Rattle.image_graph.specs.State.{memory_of}
use Rattle.full_cycle.proofs.calm.free_empty.Given as goal

abbrev pub invariant-loop-region : goal.invariant-loop-region
invariant-loop-region loop = loop.free ≡ empty_regions (λ region. memory_of loop.image (Top region)) loop.region
