use Rattle.std.proofs.Common.{◌≡◌, ℕ, ◌<◌, false}
use Rattle.image_graph.specs.Pinned.{has_pin}
use Rattle.image_graph.specs.State.{config_of, memory_of}
use Rattle.image_graph.proofs.image.Image.is_pinned.Given as goal

abbrev pub invariant-loop-mutator : goal.invariant-loop-mutator
invariant-loop-mutator loop = (mutator : ℕ) → mutator < loop.mutator → has_pin (config_of loop.self) (memory_of loop.self) loop.region mutator ≡ false
