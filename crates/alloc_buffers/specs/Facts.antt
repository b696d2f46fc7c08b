-- What a machine of a seat counts on while it takes room.
use Rattle.std.specs.Prelude.{ℕ, ◌≡◌, ◌⊎◌, ◌+◌, ◌<◌, ◌≤◌, true, Some, None}
use Rattle.heap_words.specs.declared.config.Config.{Config}
use Rattle.heap_words.specs.Ranges.{seat_count}
use Rattle.heap_words.specs.Encoding.{next_in, end_in}
use Rattle.heap_words.specs.Words.{Word, Top, Current}
use Rattle.regions.specs.Place.{base_of, region_with}
use Rattle.heap_world.specs.World.{World, Block, hand, spare, carved, room_of, IsOpenIn}
use Rattle.alloc_buffers.specs.declared.spot.Taken.TheVariants.{At, NoRoom}
use Rattle.alloc_buffers.specs.declared.spot.TakeSpot.{TakeSpot}
use Rattle.alloc_buffers.specs.declared.spot.TakeSpot.TheVariants.{LoadBuffer, LoadShared, LoadTop, Carve, LoadFree, TakeRegion, ShareRegion, GiveBack, Fill, StoreBuffer, Ended}
use Rattle.alloc_buffers.specs.Rows.{free_words, is_ready}

-- the buffer of a seat has fewer free words than so many
abbrev pub HasLess : (Word → ℕ) → ℕ → ℕ → Type 0
HasLess memory seat words = end_in (memory (Current seat)) < next_in (memory (Current seat)) + words

-- the word of the seat's buffer is this one, and it has too few free words
pub record IsSmall (world : World) (seat words buffer : ℕ) : Type 0 where
  pub is : world.memory (Current seat) ≡ buffer
  pub less : end_in buffer < next_in buffer + words

-- a region that a seat has taken and neither shared nor given back yet
pub record IsTaken (config : Config) (world : World) (seat region : ℕ) : Type 0 where
  pub within : region < config.regions
  pub own : world.ghost.owner region ≡ Some seat
  pub empty : world.memory (Top region) ≡ 0

-- a seat has carved words for a new buffer, and its old one has free words still
pub record IsToFill (world : World) (seat words buffer address room : ℕ) : Type 0 where
  pub is : world.memory (Current seat) ≡ buffer
  pub some : next_in buffer < end_in buffer
  pub left : world.block (next_in buffer) ≡ Some (spare seat (free_words buffer))
  pub here : world.block address ≡ Some (carved seat room)
  pub long : words ≤ room

-- the words at an address are free words of the seat's buffer, or those that it has carved, and as many as are wanted
pub record IsToStore (world : World) (seat words address room : ℕ) : Type 0 where
  pub here : (world.block address ≡ Some (spare seat room)) ⊎ (world.block address ≡ Some (carved seat room))
  pub long : words ≤ room

-- The room is in hand, and behind it the seat's buffer goes on to its end, in one region with the room.
pub record HasTakenRoom (config : Config) (world : World) (seat words address end : ℕ) : Type 0 where
  pub here : world.block address ≡ Some (hand seat words)
  pub next : next_in (world.memory (Current seat)) ≡ address + words
  pub end_is : end_in (world.memory (Current seat)) ≡ end
  pub ordered : address + words ≤ end
  pub within : end ≤ base_of config (region_with config address) + config.region_words

-- what holds of the words while a seat takes room for so many words, and when it has ended: the room is in hand, or the
-- buffer has less
abbrev pub TakeFacts : Config → World → ℕ → ℕ → TakeSpot → Type 0
TakeFacts config world seat words LoadBuffer = Unit {0}
TakeFacts config world seat words (LoadShared buffer) = IsSmall world seat words buffer
TakeFacts config world seat words (LoadTop buffer region) = IsSmall world seat words buffer × IsOpenIn config world region
TakeFacts config world seat words (Carve buffer region top room) = IsSmall world seat words buffer × IsOpenIn config world region
TakeFacts config world seat words (LoadFree buffer shared) = IsSmall world seat words buffer
TakeFacts config world seat words (TakeRegion buffer shared region) = IsSmall world seat words buffer
TakeFacts config world seat words (ShareRegion buffer shared region) = IsSmall world seat words buffer × IsTaken config world seat region
TakeFacts config world seat words (GiveBack buffer region) = IsSmall world seat words buffer × IsTaken config world seat region
TakeFacts config world seat words (Fill buffer address room) = IsToFill world seat words buffer address room
TakeFacts config world seat words (StoreBuffer address room) = IsToStore world seat words address room
TakeFacts config world seat words (Ended (At address) end) = HasTakenRoom config world seat words address end
TakeFacts config world seat words (Ended NoRoom end) = HasLess world.memory seat words

-- a piece is free words of a seat's buffer
abbrev pub IsSpare : ℕ → Block → Type 0
IsSpare seat piece = (words : ℕ) × (piece ≡ spare seat words)

-- all room of a seat is free words of its buffer
abbrev pub OnlySpares : World → ℕ → Type 0
OnlySpares world seat = (address : ℕ) (piece : Block) → world.block address ≡ Some piece → room_of piece ≡ Some seat → IsSpare seat piece

-- What room a seat has at a spot: free words of its buffer; besides, before its old buffer is filled, what it has carved, and at the end what
-- it has taken; and before it stores its buffer, nothing but what that is made of.
abbrev pub IsRoomAt : (seat words : ℕ) → TakeSpot → ℕ → Block → Type 0
IsRoomAt seat words (Fill buffer address room) asked_address piece = IsSpare seat piece ⊎ ((asked_address ≡ address) × (piece ≡ carved seat room))
IsRoomAt seat words (StoreBuffer address room) asked_address piece = asked_address ≡ address
IsRoomAt seat words (Ended (At address) end) asked_address piece = IsSpare seat piece ⊎ ((asked_address ≡ address) × (piece ≡ hand seat words))
IsRoomAt seat words _ asked_address piece = IsSpare seat piece

-- What a machine of a seat that takes room for so many words counts on. All its room is what the spot says, and it neither records
-- nor scans.
pub record CanTake (config : Config) (world : World) (seat words : ℕ) (take : TakeSpot) : Type 0 where
  pub seated : seat < seat_count config.mutators config.helpers
  pub least : 3 ≤ words
  pub most : words ≤ 35
  pub ready : is_ready config seat words take ≡ true
  pub facts : TakeFacts config world seat words take
  pub rooms : (address : ℕ) (piece : Block) → world.block address ≡ Some piece → room_of piece ≡ Some seat → IsRoomAt seat words take address piece
  pub records_none : world.ghost.recording seat ≡ None
  pub scans_none : world.ghost.scanning seat ≡ None
