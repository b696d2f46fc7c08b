use Rattle.std.proofs.Common.{◌≡◌, take}
use Rattle.image_graph.specs.State.{words_of}
use Rattle.heap_machines.proofs.from_image.words_from.Given as goal

abbrev pub invariant-loop-at : goal.invariant-loop-at
invariant-loop-at loop = loop.words.items ≡ take loop.at (words_of loop.image)
