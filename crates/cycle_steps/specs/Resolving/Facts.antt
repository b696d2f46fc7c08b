-- What a machine counts on while it resolves an address of the collection set, where objects are evacuated beside the threads.
use Rattle.std.specs.Prelude.{ℕ, ◌≡◌, ◌⊎◌, ◌+◌, ◌<◌, ◌≤◌, true, Some, None, ⊤}
use Rattle.heap_words.specs.declared.config.Config.{Config}
use Rattle.heap_words.specs.Encoding.{plain_header}
use Rattle.heap_words.specs.Ranges.{seat_count}
use Rattle.heap_words.specs.Words.{Phase, Cset, Evac, Heap}
use Rattle.shen_graph.specs.declared.name.Name.{Name}
use Rattle.alloc_buffers.specs.Facts as takes
use Rattle.alloc_buffers.specs.Facts.{IsSpare, HasTakenRoom, CanTake}
use Rattle.heap_words.specs.Counter.{is_out_of_room, IsQuiet}
use Rattle.heap_words.specs.Phases.{evacuation_phase}
use Rattle.evac_room.specs.declared.spot.RoomSpot.{RoomSpot}
use Rattle.evac_room.specs.declared.spot.RoomSpot.TheVariants.{Wait}
use Rattle.heap_world.specs.World.{World, Block, thing, moved, room_of, Body, body_at, body_words, IsCollected, HasCopy, TargetIn}
use Rattle.load_barrier.specs.declared.copying.CopySpot.{CopySpot}
use Rattle.load_barrier.specs.declared.copying.CopySpot.TheVariants.{LoadWord, StoreWord, StoreHeader, Publish, GiveBack}
use Rattle.load_barrier.specs.declared.spot.ResolveSpot.{ResolveSpot}
use Rattle.load_barrier.specs.declared.spot.ResolveSpot.TheVariants.{LoadHeader, Taking, Copying, Leaving, Stopping, LoadAgain, Resolved}
use Rattle.load_barrier.specs.Fit.{is_ready}
use Rattle.load_barrier.specs.Alone.{is_copier}

-- What is answered for an address of the collection set: the current copy of the object of which the address is a copy, and it may be
-- used. If it lies outside the set, the address is an old copy; and if it lies in the set, there was no room.
pub record IsAnswer (config : Config) (world : World) (address to : ℕ) : Type 0 where
  pub named : (body : Body) → body_at (world.block address) ≡ Some body → TargetIn config world to body.refs body.nums body.name
  pub passed : (IsCollected config (world.memory Cset) to → ⊥) → (refs nums : ℕ) (name : Name) → world.block address ≡ Some (thing name refs nums) → ⊥
  pub stopped : IsCollected config (world.memory Cset) to → is_out_of_room (world.memory Evac) ≡ true

-- an old copy of an object, whose current copy is at another address
abbrev pub HasMovedTo : World → ℕ → Body → ℕ → Type 0
HasMovedTo world address body to = world.block address ≡ Some (moved body.name body.refs body.nums to)

-- Room for a copy of an object is in hand, as it was taken out of a buffer with an end, and its words below an index are those of the object,
-- but for the header.
pub record IsCopied (config : Config) (world : World) (seat address copy end : ℕ) (body : Body) (index : ℕ) : Type 0 where
  pub taken : HasTakenRoom config world seat (body_words body) copy end
  pub same : (k : ℕ) → 1 ≤ k → k < index → world.memory (Heap (copy + k)) ≡ world.memory (Heap (address + k))

-- what holds while it copies an object into room that begins at another address
abbrev pub CopyFacts : Config → World → (seat address copy end : ℕ) → Body → CopySpot → Type 0
CopyFacts config world seat address copy end body (LoadWord words index) = (words ≡ body_words body) × (1 ≤ index) × (index < words) × IsCopied config world seat address copy end body index
CopyFacts config world seat address copy end body (StoreWord words index found) =
    (words ≡ body_words body) × (1 ≤ index) × (index < words) × IsCopied config world seat address copy end body index × (found ≡ world.memory (Heap (address + index)))
CopyFacts config world seat address copy end body StoreHeader = IsCopied config world seat address copy end body (body_words body)
CopyFacts config world seat address copy end body Publish = IsCopied config world seat address copy end body (body_words body) × (world.memory (Heap copy) ≡ plain_header)
CopyFacts config world seat address copy end body (GiveBack answer) = HasTakenRoom config world seat (body_words body) copy end × HasMovedTo world address body answer

-- what holds while it stops all copying: once it waits, the counter says that there was no room
abbrev pub StopFacts : ℕ → RoomSpot → Type 0
StopFacts word Wait = is_out_of_room word ≡ true
StopFacts word _ = ⊤

-- what holds of the object, current copy or old, by where the machine stands
abbrev pub BodyFacts : Config → World → (seat address : ℕ) → Body → ResolveSpot → Type 0
BodyFacts config world seat address body (Taking words spot) = (words ≡ body_words body) × CanTake config world seat words spot
BodyFacts config world seat address body (Copying copy end spot) = CopyFacts config world seat address copy end body spot
BodyFacts config world seat address body (Leaving answer) = HasMovedTo world address body answer
BodyFacts config world seat address body (Stopping spot) = StopFacts (world.memory Evac) spot
BodyFacts config world seat address body LoadAgain = IsQuiet (world.memory Evac)
BodyFacts config world seat address body _ = ⊤

-- what holds by where it stands: beyond the first load of the header the address is a copy of an object of the graph, and in the end
-- there is the answer
abbrev pub ResolveFacts : Config → World → (seat address : ℕ) → ResolveSpot → Type 0
ResolveFacts config world seat address LoadHeader = ⊤
ResolveFacts config world seat address (Resolved answer) = IsAnswer config world address answer
ResolveFacts config world seat address spot = (body : Body) × (body_at (world.block address) ≡ Some body) × BodyFacts config world seat address body spot

-- What room the machine has: free words of its buffer; besides, what a taking says, and the room for its copy.
abbrev pub IsResolvingRoom : ℕ → ResolveSpot → ℕ → Block → Type 0
IsResolvingRoom seat (Taking words spot) address piece = takes.IsRoomAt seat words spot address piece
IsResolvingRoom seat (Copying copy end spot) address piece = IsSpare seat piece ⊎ (address ≡ copy)
IsResolvingRoom seat _ address piece = IsSpare seat piece

-- Objects are evacuated, and the address lies in the collection set and is that of a copy, current or old. The counter counts the
-- machine where it copies; all its room is what the spot says, and it neither records nor scans.
pub record CanResolve (config : Config) (world : World) (seat address : ℕ) (spot : ResolveSpot) : Type 0 where
  pub seated : seat < seat_count config.mutators config.helpers
  pub phase : world.memory Phase ≡ evacuation_phase
  pub inside : IsCollected config (world.memory Cset) address
  pub there : HasCopy world.block address
  pub copying : world.ghost.copying seat ≡ is_copier spot
  pub records_none : world.ghost.recording seat ≡ None
  pub scans_none : world.ghost.scanning seat ≡ None
  pub rooms : (other_address : ℕ) (piece : Block) → world.block other_address ≡ Some piece → room_of piece ≡ Some seat → IsResolvingRoom seat spot other_address piece
  pub ready : is_ready config seat address spot ≡ true
  pub facts : ResolveFacts config world seat address spot
