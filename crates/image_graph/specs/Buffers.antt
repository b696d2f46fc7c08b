-- That words hold the same graph once buffers were settled, and once they were let go.
use Rattle.std.specs.Prelude.{ℕ, ◌≡◌, ◌≤◌, if◌then◌else◌, false, Option, Some}
use Rattle.std.specs.Option.{option_map}
use Rattle.heap_words.specs.declared.config.Config.{Config}
use Rattle.heap_words.specs.Ranges.{seat_count}
use Rattle.heap_words.specs.Words.{Word, Current}
use Rattle.shen_graph.specs.Graph.{Graph}
use Rattle.heap_world.specs.World.{Block, spare, filler, is_loose, Plot, HasNoRoom}
use Rattle.image_graph.specs.SeatBuffers.{is_last}
use Rattle.image_graph.specs.Promised.{Promises}
use Rattle.image_graph.specs.Holds.{HoldsBy, AreSized}

-- no seat but those of the heap has a buffer
abbrev pub HasNoMoreSeats : Config → (Word → ℕ) → Type 0
HasNoMoreSeats config memory = (seat : ℕ) → seat_count config.mutators config.helpers ≤ seat → memory (Current seat) ≡ 0

-- the pieces once buffers were settled: the free words of one that does not end at the top of its region only fill
abbrev pub settled_piece : Config → (Word → ℕ) → Block → Block
settled_piece config memory (spare seat words) = if is_last config memory (memory (Current seat)) then spare seat words else filler words
settled_piece config memory piece = piece

abbrev pub settled_block : Config → (Word → ℕ) → Plot → Plot
settled_block config memory block address = option_map (settled_piece config memory) (block address)

-- Whatever graph the words held, in whatever way, they hold it once buffers were settled, by the pieces that are left; and where each piece
-- said how many words it has, each does.
pub record HoldsSettled (config : Config) (before after : Word → ℕ) (block : Plot) (owner : ℕ → Option ℕ) (promises : Promises) (graph : Graph) : Type 0 where
  pub holds : HoldsBy config after (settled_block config before block) owner promises graph
  pub sized : AreSized before block → AreSized after (settled_block config before block)

abbrev pub SettlingHolds : Config → (before after : Word → ℕ) → Type 0
SettlingHolds config before after = (block : Plot) (owner : ℕ → Option ℕ) (promises : Promises) (graph : Graph) → HoldsBy config before block owner promises graph
    → HoldsSettled config before after block owner promises graph

-- They hold it once buffers were let go, by pieces of which none is room, and in which each object stays where it is.
pub record HoldsLetGo (config : Config) (before after : Word → ℕ) (block : Plot) (owner : ℕ → Option ℕ) (promises : Promises) (graph : Graph) : Type 0 where
  pub pieces : Plot
  pub holds : HoldsBy config after pieces owner promises graph
  pub none : HasNoRoom pieces
  pub stays : (address : ℕ) (piece : Block) → is_loose piece ≡ false → block address ≡ Some piece → pieces address ≡ Some piece
  pub came : (address : ℕ) (piece : Block) → is_loose piece ≡ false → pieces address ≡ Some piece → block address ≡ Some piece
  pub sized : AreSized before block → AreSized after pieces

abbrev pub LettingGoHolds : Config → (before after : Word → ℕ) → Type 0
LettingGoHolds config before after = (block : Plot) (owner : ℕ → Option ℕ) (promises : Promises) (graph : Graph) → HoldsBy config before block owner promises graph
    → HoldsLetGo config before after block owner promises graph
