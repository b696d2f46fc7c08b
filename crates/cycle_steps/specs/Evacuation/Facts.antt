-- What a machine counts on while it works on a unit of evacuation: a region of the collection set, whose objects it copies.
use Rattle.std.specs.Prelude.{ℕ, ◌≡◌, ◌+◌, ◌<◌, ◌≤◌, false, Option, Some, None}
use Rattle.heap_words.specs.declared.config.Config.{Config}
use Rattle.heap_words.specs.Ranges.{seat_count}
use Rattle.heap_words.specs.Words.{Phase, Cset, Evac, Top}
use Rattle.heap_words.specs.Phases.{evacuation_phase}
use Rattle.regions.specs.Place.{base_of, region_with}
use Rattle.regions.specs.Sets.{IsIn}
use Rattle.alloc_buffers.specs.Facts.{OnlySpares}
use Rattle.heap_world.specs.World.{World, Block, words_of, filling, IsCollected, IsSweptTo}
use Rattle.load_barrier.specs.Rows.{is_ended}
use Rattle.load_barrier.specs.declared.evac_spot.EvacSpot.{EvacSpot}
use Rattle.load_barrier.specs.declared.evac_spot.EvacSpot.TheVariants.{LoadClaim, ClaimUnit, LoadTop, LoadFirst, LoadShape, LoadMark, Resolving, Ended}
use Rattle.cycle_steps.specs.Resolving.Facts.{CanResolve}

-- the region on which it works, by where it stands: from the step that claims a region of the set to that which ends the unit
abbrev pub working_of : Config → EvacSpot → Option ℕ
working_of config (LoadTop region) = Some region
working_of config (LoadFirst address end) = Some (region_with config address)
working_of config (LoadShape address end) = Some (region_with config address)
working_of config (LoadMark address end next) = Some (region_with config address)
working_of config (Resolving address end next spot) = Some (region_with config address)
working_of config _ = None

-- a region of the set is swept as a whole: no object has its current copy there; or there was no room
abbrev pub IsSwept : Config → World → ℕ → Type 0
IsSwept config world region = IsSweptTo config (world.memory Evac) world.block region (base_of config (region + 1))

-- A walk of a region of the set, which ends at the region's top, has come to an address: a piece begins there, and the region is swept
-- up to it.
pub record IsWalkedTo (config : Config) (world : World) (address end : ℕ) : Type 0 where
  pub inside : IsCollected config (world.memory Cset) address
  pub from_base : base_of config (region_with config address) ≤ address
  pub before : address < end
  pub end_is : end ≡ base_of config (region_with config address) + world.memory (Top (region_with config address))
  pub piece : Block
  pub there : world.block address ≡ Some piece
  pub swept : IsSweptTo config (world.memory Evac) world.block (region_with config address) address

-- and the piece is no words that only fill
pub record IsAtObject (config : Config) (world : World) (address end : ℕ) : Type 0 where
  pub at : IsWalkedTo config world address end
  pub solid : filling at.piece ≡ None

-- and the address behind the piece is known
pub record IsMeasured (config : Config) (world : World) (address end next : ℕ) : Type 0 where
  pub at : IsWalkedTo config world address end
  pub solid : filling at.piece ≡ None
  pub next_is : next ≡ address + words_of at.piece

-- the machine of a seat copies, records and scans nothing, and has no room but the free words of its buffer
pub record HasNothing (world : World) (seat : ℕ) : Type 0 where
  pub copying : world.ghost.copying seat ≡ false
  pub records_none : world.ghost.recording seat ≡ None
  pub scans_none : world.ghost.scanning seat ≡ None
  pub rooms : OnlySpares world seat

-- what holds of the words and of what the machine copies, by where it stands
abbrev pub WorkFacts : Config → World → ℕ → EvacSpot → Type 0
WorkFacts config world seat LoadClaim = HasNothing world seat
WorkFacts config world seat (ClaimUnit unit) = HasNothing world seat × (unit < config.regions)
WorkFacts config world seat (LoadTop region) = HasNothing world seat × IsIn (world.memory Cset) region
WorkFacts config world seat (LoadFirst address end) = HasNothing world seat × IsWalkedTo config world address end
WorkFacts config world seat (LoadShape address end) = HasNothing world seat × IsAtObject config world address end
WorkFacts config world seat (LoadMark address end next) = HasNothing world seat × IsMeasured config world address end next
WorkFacts config world seat (Resolving address end next spot) = (is_ended spot ≡ false) × CanResolve config world seat address spot × IsMeasured config world address end next
WorkFacts config world seat (Ended unit) = HasNothing world seat

-- Objects are evacuated, the machine knows the collection set, and works on the region of which its spot tells.
pub record CanEvacuate (config : Config) (world : World) (seat cset : ℕ) (spot : EvacSpot) : Type 0 where
  pub seated : seat < seat_count config.mutators config.helpers
  pub phase : world.memory Phase ≡ evacuation_phase
  pub set_is : cset ≡ world.memory Cset
  pub working : world.ghost.working seat ≡ working_of config spot
  pub facts : WorkFacts config world seat spot
