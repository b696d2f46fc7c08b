-- What is a mutator's own, in words and in the graph: its count, its roots, and its room.
use Rattle.std.specs.Prelude.{ℕ, ◌≡◌, ◌⊎◌, ◌+◌, ◌<◌, ◌==◌, Some, if◌then◌else◌}
use Rattle.heap_words.specs.Words.{Root}
use Rattle.shen_graph.specs.declared.command.Command.{Command}
use Rattle.mutator.specs.declared.spot.Kept.{Kept}
use Rattle.mutator.specs.declared.spot.Spot.{Spot}
use Rattle.mutator.specs.declared.spot.Spot.TheVariants.{Resolving, Recording, Showing, Making}
use Rattle.mutator.specs.declared.overwrites.Overwritten.{Overwritten}
use Rattle.mutator.specs.declared.overwrites.Overwritten.TheVariants as overwrites
use Rattle.mutator.specs.declared.makes.MakeSpot.{MakeSpot}
use Rattle.mutator.specs.declared.makes.MakeSpot.TheVariants as make
use Rattle.mutator.specs.declared.resolves.Loaded.{Loaded}
use Rattle.mutator.specs.declared.resolves.Loaded.TheVariants.{ForRoot, ToCompare}
use Rattle.mutator.specs.Commands.{dst_of}
use Rattle.cycle_steps.specs.Resolving.Facts.{IsResolvingRoom}
use Rattle.mutator.specs.Rows.{Mutating, words_made}
use Rattle.heap_world.specs.World.{World, Block, hand, room_of, Points}
use Rattle.alloc_buffers.specs.Facts as takes
use Rattle.alloc_buffers.specs.Facts.{IsSpare}

-- the word that counts as a root where a call has the value of its own root in hand
abbrev pub root_with : World → ℕ → (dst value : ℕ) → ℕ → ℕ
root_with world seat dst value index = if index == dst then value else world.memory (Root seat index)

-- and where it records what it has overwritten: an Xchg has that in hand for its root
abbrev pub root_recording : World → ℕ → (dst value : ℕ) → Overwritten → ℕ → ℕ
root_recording world seat dst value overwrites.Xchg index = root_with world seat dst value index
root_recording world seat dst value _ index = world.memory (Root seat index)

-- and where it resolves what it has found in a field
abbrev pub root_resolving : World → ℕ → (dst value : ℕ) → Loaded → ℕ → ℕ
root_resolving world seat dst value ForRoot index = root_with world seat dst value index
root_resolving world seat dst value (ToCompare object expect new_value) index = world.memory (Root seat index)

-- the word that counts as a root of the mutator: while a call has the root's new value in hand, that value
abbrev pub root_now : World → ℕ → Kept → Spot → ℕ → ℕ
root_now world seat kept (Showing value spot) index = root_with world seat (dst_of kept.command) value index
root_now world seat kept (Resolving address spot next) index = root_resolving world seat (dst_of kept.command) address next index
root_now world seat kept (Recording spot address next) index = root_recording world seat (dst_of kept.command) address next index
root_now world seat kept _ index = world.memory (Root seat index)

-- What room a mutator has by where it stands: free words of its buffer; besides, what a taking of room says, and then, in hand, the words of
-- the object that it makes; or those of the object that it copies.
abbrev pub IsInMaking : (seat : ℕ) → Command → MakeSpot → ℕ → Block → Type 0
IsInMaking seat command (make.Taking take) asked_address piece = takes.IsRoomAt seat (words_made command) take asked_address piece
IsInMaking seat command (make.StoreWord address done) asked_address piece = IsSpare seat piece ⊎ ((asked_address ≡ address) × (piece ≡ hand seat (words_made command)))
IsInMaking seat command (make.StoreRoot address) asked_address piece = IsSpare seat piece ⊎ ((asked_address ≡ address) × (piece ≡ hand seat (words_made command)))

abbrev pub IsRoomOf : (seat : ℕ) → Kept → Spot → ℕ → Block → Type 0
IsRoomOf seat kept (Making spot) asked_address piece = IsInMaking seat kept.command spot asked_address piece
IsRoomOf seat kept (Resolving address spot next) asked_address piece = IsResolvingRoom seat spot asked_address piece
IsRoomOf seat kept _ asked_address piece = IsSpare seat piece

-- The words of a mutator stand for what its thread has in the graph: it has made as many objects, its roots stand for its
-- roots, and besides free words of its buffer it has room only for an object that it makes or copies.
pub record HasItsOwn (world : World) (mutator : Mutating) : Type 0 where
  pub made : world.graph.count (mutator.seat + 1) ≡ mutator.made
  pub roots : (index : ℕ) → index < 16 → Points world.block (root_now world mutator.seat mutator.kept mutator.spot index) (world.graph.root (mutator.seat + 1) index)
  pub rooms : (address : ℕ) (piece : Block) → world.block address ≡ Some piece → room_of piece ≡ Some mutator.seat → IsRoomOf mutator.seat mutator.kept mutator.spot address piece
