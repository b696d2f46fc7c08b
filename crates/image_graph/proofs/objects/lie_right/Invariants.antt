use Rattle.std.proofs.Common.{ℕ, ◌<◌, get_or}
use Rattle.image_graph.specs.State.{config_of, memory_of}
use Rattle.image_graph.specs.Laid.{LiesRight}
use Rattle.image_graph.proofs.objects.lie_right.Given as goal

abbrev pub invariant-loop-address : goal.invariant-loop-address
invariant-loop-address loop = (index : ℕ) → index < loop.address-index → LiesRight (config_of loop.image) (memory_of loop.image) loop.objects (get_or loop.objects index 0)
