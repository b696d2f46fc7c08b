-- That edges divide the pieces of a heap.
use Rattle.std.specs.Prelude.{ℕ, ◌≡◌, ◌≤◌, Some, None}
use Rattle.heap_words.specs.declared.config.Config.{Config}
use Rattle.heap_words.specs.Words.{Word, Top}
use Rattle.heap_world.specs.World.{Block, Plot, room_of, IsYoung, AreYoungRooms}
use Rattle.image_graph.specs.Edge.{edge}

-- All room lies at or above the edge of its region, all else below it, and no edge is above the top: what is allocated from now on is young
-- by the edges.
pub record AreDivided (config : Config) (memory : Word → ℕ) (block : Plot) : Type 0 where
  pub rooms : AreYoungRooms config (edge config memory) block
  pub others : (address : ℕ) (piece : Block) → block address ≡ Some piece → room_of piece ≡ None → IsYoung config (edge config memory) address → ⊥
  pub tops : (region : ℕ) → edge config memory region ≤ memory (Top region)
