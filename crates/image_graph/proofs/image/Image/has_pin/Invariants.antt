use Rattle.std.proofs.Common.{◌≡◌, ℕ, ◌<◌, false}
use Rattle.heap_words.specs.Words.{Pin}
use Rattle.image_graph.specs.Pinned.{lies_in}
use Rattle.image_graph.specs.State.{config_of, memory_of}
use Rattle.image_graph.proofs.image.Image.has_pin.Given as goal

abbrev pub invariant-loop-slot : goal.invariant-loop-slot
invariant-loop-slot loop = (slot : ℕ) → slot < loop.slot → lies_in (config_of loop.self) loop.region (memory_of loop.self (Pin loop.mutator slot)) ≡ false
