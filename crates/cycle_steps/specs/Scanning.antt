-- What a machine counts on while it scans a unit of marking, where objects are marked from a snapshot.
use Rattle.std.specs.Prelude.{ℕ, ◌≡◌, ◌+◌, ◌<◌, ◌^◌, ◌⊎◌, true, Option, Some, None, ⊤}
use Rattle.std.specs.Int.{bit_at}
use Rattle.heap_words.specs.declared.config.Config.{Config}
use Rattle.heap_words.specs.Encoding.{refs_in}
use Rattle.heap_words.specs.Ranges.{seat_count}
use Rattle.heap_words.specs.Words.{Phase, Heap}
use Rattle.heap_words.specs.Phases.{marking_phase}
use Rattle.regions.specs.Marks.{address_at}
use Rattle.shen_graph.specs.declared.name.Name.{Name}
use Rattle.heap_world.specs.World.{World, Scan, Plot, thing, hand, IsMarkable, NotedIn, was_at, NeedsNoMarking}
use Rattle.unit_part.specs.declared.scan_spot.ScanSpot.{ScanSpot}
use Rattle.unit_part.specs.declared.scan_spot.ScanSpot.TheVariants.{LoadBlack, SetBlack, LoadShape, LoadField, SetGrey}
use Rattle.unit_part.specs.ScanRows.{is_ready}

-- a scan of an object that has come to a field
abbrev pub scan_at : ℕ → ℕ → Scan
scan_at object field = record { object = object; field = field }

-- the scan in which a machine is, by where it stands: from the step that makes an object black to that which deals with its last field
abbrev pub scanning_of : ScanSpot → Option Scan
scanning_of (LoadShape address) = Some (scan_at address 0)
scanning_of (LoadField address field refs) = Some (scan_at address field)
scanning_of (SetGrey address field refs found) = Some (scan_at address field)
scanning_of _ = None

-- bits of one word mark objects
pub record MarkObjects (config : Config) (block : Plot) (word bits : ℕ) : Type 0 where
  pub small : bits < 2 ^ 64
  pub of_objects : (k : ℕ) → k < 64 → bit_at bits k ≡ 1 → IsMarkable block (address_at config word k)

-- an address is that of an object that can be marked, with so many references, of which the field is one
pub record IsAtField (world : World) (address field refs : ℕ) : Type 0 where
  pub object : IsMarkable world.block address
  pub refs_are : refs_in (world.memory (Heap (address + 1))) ≡ refs
  pub below : field < refs

-- If an object of the snapshot is there, its field is done, or had then what was found.
abbrev pub IsDoneOrFound : Config → World → ℕ → ℕ → ℕ → Type 0
IsDoneOrFound config world address field found = (name : Name) (refs nums : ℕ) → world.ghost.snapshot.block address ≡ Some (thing name refs nums) → field < refs
    → NeedsNoMarking world.ghost.snapshot (NotedIn config world) address field ⊎ (was_at world.ghost.snapshot address field ≡ found)

-- what holds of the words and of the snapshot, by where the machine stands
abbrev pub ScanFacts : Config → World → ScanSpot → Type 0
ScanFacts config world (LoadBlack word grey) = MarkObjects config world.block word grey
ScanFacts config world (SetBlack address) = IsMarkable world.block address
ScanFacts config world (LoadShape address) = IsMarkable world.block address
ScanFacts config world (LoadField address field refs) = IsAtField world address field refs
ScanFacts config world (SetGrey address field refs found) = IsAtField world address field refs × IsMarkable world.block found × IsDoneOrFound config world address field found
ScanFacts config world _ = ⊤

-- Objects are marked, and the machine is in the scan of which its spot tells. It records nothing, and has no room in hand.
pub record CanScan (config : Config) (world : World) (seat : ℕ) (spot : ScanSpot) : Type 0 where
  pub seated : seat < seat_count config.mutators config.helpers
  pub phase : world.memory Phase ≡ marking_phase
  pub scanning : world.ghost.scanning seat ≡ scanning_of spot
  pub records_none : world.ghost.recording seat ≡ None
  pub ready : is_ready config spot ≡ true
  pub hands : (address words : ℕ) → world.block address ≡ Some (hand seat words) → ⊥
  pub facts : ScanFacts config world spot
