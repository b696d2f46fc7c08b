-- The buffers of words that hold a graph lie in regions of the heap.
use Rattle.std.proofs.Common.{ℕ}
use Rattle.std.proofs.Math.Logic.{∥∥₁_elim}
use Rattle.std.proofs.Math.Bridge.{le_prop}
use Rattle.heap_words.specs.declared.config.Config.{Config}
use Rattle.heap_words.specs.Words.{Word}
use Rattle.image_graph.specs.SeatBuffers.{AreInside}
use Rattle.image_graph.specs.Holds.{HoldsSome}
use Rattle.image_graph.proofs.Inside.{buffers_inside}

inside_prop : (config : Config) (memory : Word → ℕ) → IsProp (AreInside config memory)
inside_prop config memory = hlevel (le_prop)

pub inside_some : (config : Config) (memory : Word → ℕ) → HoldsSome config memory → AreInside config memory
inside_some config memory holds = ∥∥₁_elim holds (inside_prop config memory) (λ held. buffers_inside config memory held.1.0 held.1.3.objects.plotted held.1.3.buffers)
