use Rattle.std.proofs.Common.{ℕ, ◌<◌}
use Rattle.image_graph.specs.State.{config_of, memory_of, EndsIn}
use Rattle.image_graph.proofs.image.Image.is_current.Given as goal

abbrev pub invariant-loop-seat : goal.invariant-loop-seat
invariant-loop-seat loop = (seat : ℕ) → seat < loop.seat → EndsIn (config_of loop.self) (memory_of loop.self) seat loop.region → ⊥
