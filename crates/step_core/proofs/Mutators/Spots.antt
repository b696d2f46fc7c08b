-- A mutator at a spot, and the world after its access where nothing but the memory changes.
use Rattle.std.proofs.Common.{ℕ}
use Rattle.heap_words.specs.declared.config.Config.{Config}
use Rattle.heap_words.specs.Touch.{touched}
use Rattle.mutator.specs.declared.spot.Kept.{Kept}
use Rattle.mutator.specs.declared.spot.Spot.{Spot}
use Rattle.mutator.specs.Rows.{Mutating, touch_of}
use Rattle.shen_graph.specs.declared.order.Order.{Order}
use Rattle.shen_graph.specs.declared.order.Order.TheVariants.{Nothing}
use Rattle.heap_world.specs.World.{World}

-- a mutator at a spot
abbrev pub mutator_at : ℕ → ℕ → Kept → Spot → Mutating
mutator_at seat made kept spot = record { seat = seat; made = made; kept = kept; spot = spot }

-- the world after its access under an order
abbrev pub accessed_by : Config → World → Mutating → Order → World
accessed_by config world mutator order = record { memory = touched world.memory (touch_of config mutator order); block = world.block; ghost = world.ghost; graph = world.graph }

-- and after one in a call
abbrev pub accessed : Config → World → Mutating → World
accessed config world mutator = accessed_by config world mutator Nothing
