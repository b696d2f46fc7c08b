-- How the room of a heap is shared out among its seats.
use Rattle.std.specs.Prelude.{ℕ, ◌≡◌, ◌≢◌, ◌⊎◌, ◌+◌, ◌<◌, ◌≤◌, Some}
use Rattle.heap_words.specs.declared.config.Config.{Config}
use Rattle.heap_words.specs.Words.{Free, Cset}
use Rattle.regions.specs.Place.{IsOf}
use Rattle.regions.specs.Sets.{IsIn}
use Rattle.heap_world.specs.World.{World, Block, room_of, words_of, IsCollected}

-- Room of two seats is apart, also where both lie in one region; and no room lies in a free region, or in the collection set.
pub record AreSharedOut (config : Config) (world : World) : Type 0 where
  pub apart : (address other_address seat other : ℕ) (piece other_piece : Block) → world.block address ≡ Some piece → world.block other_address ≡ Some other_piece → room_of piece ≡ Some seat → room_of other_piece ≡ Some other → seat ≢ other
      → (address + words_of piece ≤ other_address) ⊎ (other_address + words_of other_piece ≤ address)
  pub none_in_free : (region address seat : ℕ) (piece : Block) → region < config.regions → IsOf config region address → IsIn (world.memory Free) region → world.block address ≡ Some piece → room_of piece ≡ Some seat → ⊥
  pub none_in_set : (address seat : ℕ) (piece : Block) → world.block address ≡ Some piece → room_of piece ≡ Some seat → IsCollected config (world.memory Cset) address → ⊥
