-- What a machine counts on while it works on a unit of updating: a region outside of the collection set, whose references into the set it
-- exchanges for ones to current copies.
use Rattle.std.specs.Prelude.{ℕ, ◌≡◌, ◌≢◌, ◌⊎◌, ◌+◌, ◌<◌, ◌≤◌, false, Option, Some, None, ⊤}
use Rattle.heap_words.specs.declared.config.Config.{Config}
use Rattle.heap_words.specs.Encoding.{refs_in, object_words}
use Rattle.heap_words.specs.Ranges.{seat_count}
use Rattle.heap_words.specs.Words.{Phase, Cset, Limit, Tams, Heap}
use Rattle.heap_words.specs.Phases.{updating_phase}
use Rattle.regions.specs.Place.{base_of}
use Rattle.regions.specs.Sets.{IsIn}
use Rattle.shen_graph.specs.declared.name.Name.{Name}
use Rattle.heap_world.specs.World.{World, Scan, thing, moved, dead, filler, IsMarkable, IsCurrent}
use Rattle.alloc_buffers.specs.Facts.{OnlySpares}
use Rattle.unit_part.specs.declared.update_spot.Walk.{Walk}
use Rattle.unit_part.specs.declared.update_spot.Visit.{Visit}
use Rattle.unit_part.specs.declared.update_spot.UpdateSpot.{UpdateSpot}
use Rattle.unit_part.specs.declared.update_spot.UpdateSpot.TheVariants.{ClaimUnit, LoadLimit, LoadTams, LoadFirst, LoadShape, LoadBlack, LoadField, LoadHeader, ExchangeField}
use Rattle.unit_part.specs.UpdateRows.{limit_of, tams_of}

-- where a machine stands in its unit, by its spot: at the first reference with which it has not dealt, of an object to which it has come
abbrev pub pass_of : Config → UpdateSpot → Option Scan
pass_of config (LoadLimit region) = Some (record { object = base_of config region; field = 0 })
pass_of config (LoadTams region limit) = Some (record { object = base_of config region; field = 0 })
pass_of config (LoadFirst walk address) = Some (record { object = address; field = 0 })
pass_of config (LoadShape walk address) = Some (record { object = address; field = 0 })
pass_of config (LoadBlack visit) = Some (record { object = visit.address; field = 0 })
pass_of config (LoadField visit field) = Some (record { object = visit.address; field = field })
pass_of config (LoadHeader visit field found) = Some (record { object = visit.address; field = field })
pass_of config (ExchangeField visit field found copy) = Some (record { object = visit.address; field = field })
pass_of config _ = None

-- a region that can be a unit: it is one of the heap, and not of the collection set
abbrev pub IsUnit : Config → World → ℕ → Type 0
IsUnit config world region = (region < config.regions) × (IsIn (world.memory Cset) region → ⊥)

-- A walk of such a region, with its limit and its tams, has come to an address below the limit at which a piece begins.
pub record HasComeTo (config : Config) (world : World) (walk : Walk) (address : ℕ) : Type 0 where
  pub unit : IsUnit config world walk.region
  pub limit_is : walk.limit ≡ world.memory (Limit walk.region)
  pub tams_is : walk.tams ≡ world.memory (Tams walk.region)
  pub from_base : base_of config walk.region ≤ address
  pub before : address < limit_of config walk

-- the piece there is an object, a promised one, or a dead one
abbrev pub IsPiece : World → ℕ → Type 0
IsPiece world address = IsMarkable world.block address ⊎ ((words : ℕ) × (world.block address ≡ Some (dead words)))

-- or words that only fill
abbrev pub HasPiece : World → ℕ → Type 0
HasPiece world address = IsPiece world address ⊎ ((words : ℕ) × (world.block address ≡ Some (filler words)))

-- a shape word tells how long an object is: that of the object, or one of as many words as the dead one has
abbrev pub HasShape : World → (address shape : ℕ) → Type 0
HasShape world address shape =
    (IsMarkable world.block address × (shape ≡ world.memory (Heap (address + 1)))) ⊎ ((words : ℕ) × (world.block address ≡ Some (dead words)) × (object_words shape ≡ words))

-- the object that it visits is not dead, and has a reference of this number
pub record HasField (config : Config) (world : World) (visit : Visit) (field : ℕ) : Type 0 where
  pub walked : HasComeTo config world visit.walk visit.address
  pub alive : IsMarkable world.block visit.address
  pub shape_is : visit.shape ≡ world.memory (Heap (visit.address + 1))
  pub below : field < refs_in visit.shape

-- an object of the graph has its current copy there
abbrev pub HasThing : World → ℕ → Type 0
HasThing world address = (name : Name) × (refs : ℕ) × (nums : ℕ) × (world.block address ≡ Some (thing name refs nums))

-- The reference, of an object of the graph, was found to be that of an old copy, whose current copy is at an address, and still is, or is
-- current by now.
pub record HasFound (world : World) (visit : Visit) (field found to : ℕ) : Type 0 where
  pub holder : HasThing world visit.address
  pub refs : ℕ
  pub nums : ℕ
  pub name : Name
  pub old : world.block found ≡ Some (moved name refs nums to)
  pub still : (world.memory (Heap (visit.address + 3 + field)) ≡ found) ⊎ IsCurrent world.block (world.memory (Heap (visit.address + 3 + field)))

-- what holds by where it stands
abbrev pub UpdateFacts : Config → World → UpdateSpot → Type 0
UpdateFacts config world (ClaimUnit unit) = unit < config.regions
UpdateFacts config world (LoadLimit region) = IsUnit config world region
UpdateFacts config world (LoadTams region limit) = IsUnit config world region × (limit ≡ world.memory (Limit region)) × (limit ≢ 0)
UpdateFacts config world (LoadFirst walk address) = HasComeTo config world walk address × HasPiece world address
UpdateFacts config world (LoadShape walk address) = HasComeTo config world walk address × IsPiece world address
UpdateFacts config world (LoadBlack visit) = HasComeTo config world visit.walk visit.address × HasShape world visit.address visit.shape × (refs_in visit.shape ≢ 0) × (visit.address < tams_of config visit.walk)
UpdateFacts config world (LoadField visit field) = HasField config world visit field
UpdateFacts config world (LoadHeader visit field found) = HasField config world visit field × ((to : ℕ) × HasFound world visit field found to)
UpdateFacts config world (ExchangeField visit field found copy) = HasField config world visit field × HasFound world visit field found copy
UpdateFacts config world _ = ⊤

-- References are updated, the machine knows the collection set, and stands in its unit where its spot says. It copies and records nothing,
-- and all its room is free words of its buffer.
pub record CanUpdate (config : Config) (world : World) (seat cset : ℕ) (spot : UpdateSpot) : Type 0 where
  pub seated : seat < seat_count config.mutators config.helpers
  pub phase : world.memory Phase ≡ updating_phase
  pub set_is : cset ≡ world.memory Cset
  pub copying : world.ghost.copying seat ≡ false
  pub working : world.ghost.working seat ≡ None
  pub records_none : world.ghost.recording seat ≡ None
  pub scanning : world.ghost.scanning seat ≡ pass_of config spot
  pub rooms : OnlySpares world seat
  pub facts : UpdateFacts config world spot
