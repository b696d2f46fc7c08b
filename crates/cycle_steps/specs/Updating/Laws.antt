-- What the steps by which machines update references owe, and what all claimed units come to.
use Rattle.std.specs.Prelude.{ℕ, ◌≡◌, ◌≢◌, ◌+◌, ◌<◌, ◌≤◌, true, false, Some, None}
use Rattle.heap_words.specs.declared.config.Config.{Config}
use Rattle.heap_words.specs.Ranges.{seat_count}
use Rattle.heap_words.specs.Words.{Phase, Cset, Claim, Limit, Heap}
use Rattle.heap_words.specs.Phases.{updating_phase}
use Rattle.heap_words.specs.Touch.{loads}
use Rattle.regions.specs.Place.{region_with}
use Rattle.shen_graph.specs.declared.name.Name.{Name}
use Rattle.heap_world.specs.World.{World, Scan, thing, Body, body_at, body_words, IsCollected, IsYoung, IsCurrent, Shared}
use Rattle.heap_world.specs.Part.{Part, PartSteps}
use Rattle.load_barrier.specs.declared.spot.ResolveSpot.{ResolveSpot}
use Rattle.load_barrier.specs.declared.spot.ResolveSpot.TheVariants.{LoadHeader, Resolved}
use Rattle.load_barrier.specs.Rows as resolves
use Rattle.load_barrier.specs.Fit as resolve
use Rattle.load_barrier.specs.Alone.{is_copier}
use Rattle.cycle_steps.specs.Resolving.Facts.{IsAnswer}
use Rattle.cycle_steps.specs.Evacuation.Facts.{HasNothing}
use Rattle.unit_part.specs.declared.update_spot.UpdateSpot.{UpdateSpot}
use Rattle.unit_part.specs.declared.update_spot.UpdateSpot.TheVariants.{LoadClaim}
use Rattle.unit_part.specs.UpdateRows.{touch_at, next_at, is_ended, is_ready}
use Rattle.unit_part.specs.UpdateSeen.{IsFit}
use Rattle.cycle_steps.specs.Updating.Facts.{CanUpdate}
use Rattle.cycle_steps.specs.Updating.Following.{CanFollow}

-- a machine that updates
abbrev pub updating_part : Config → (seat cset : ℕ) → Part
updating_part config seat cset = record {
  Spot = UpdateSpot;
  is_ended = is_ended;
  touch = touch_at config;
  next = next_at config cset;
  IsFit = IsFit config cset;
  Can = λ world spot. CanUpdate config world seat cset spot;
  Then = λ world next_world spot. CanUpdate config next_world seat cset spot;
}

-- A machine that updates claims regions outside of the collection set, and sees to it that their fields become current. Of the words of
-- copies in the set it only loads.
pub record UpdatingSteps : Type 0 where
  pub begins : (config : Config) (world : World) (seat : ℕ) → seat < seat_count config.mutators config.helpers → world.memory Phase ≡ updating_phase → world.ghost.working seat ≡ None → HasNothing world seat
      → CanUpdate config world seat (world.memory Cset) LoadClaim
  pub steps : (config : Config) (seat cset : ℕ) → PartSteps config seat (updating_part config seat cset) (Shared config)
  pub ready : (config : Config) (world : World) (seat cset : ℕ) (spot : UpdateSpot) → Shared config world → CanUpdate config world seat cset spot → is_ready config spot ≡ true
  pub spares : (config : Config) (world : World) (seat cset : ℕ) (spot : UpdateSpot) (address k : ℕ) (body : Body) → Shared config world → CanUpdate config world seat cset spot → body_at (world.block address) ≡ Some body
      → IsCollected config (world.memory Cset) address → k < body_words body → (touch_at config spot).word ≡ Heap (address + k) → (touch_at config spot).form ≡ loads

-- a machine that resolves an address then
abbrev pub following_part : Config → (seat address : ℕ) → Part
following_part config seat address = record {
  Spot = ResolveSpot;
  is_ended = resolves.is_ended;
  touch = resolves.touch_at config seat address;
  next = resolves.next_at config address updating_phase;
  IsFit = resolve.IsFit config seat address updating_phase;
  Can = λ world spot. CanFollow config world seat address spot;
  Then = λ world next_world spot. CanFollow config next_world seat address spot;
}

-- A machine that resolves an address while references are updated finds the object's current copy by one load of the header, and makes no
-- other access.
pub record FollowingSteps : Type 0 where
  pub begins : (config : Config) (world : World) (seat address : ℕ) (body : Body) → seat < seat_count config.mutators config.helpers → world.memory Phase ≡ updating_phase → IsCollected config (world.memory Cset) address → body_at (world.block address) ≡ Some body
      → world.ghost.working seat ≡ None → HasNothing world seat → CanFollow config world seat address LoadHeader
  pub steps : (config : Config) (seat address : ℕ) → PartSteps config seat (following_part config seat address) (Shared config)
  pub ready : (config : Config) (world : World) (seat address : ℕ) (spot : ResolveSpot) → Shared config world → CanFollow config world seat address spot → resolve.is_ready config seat address spot ≡ true
  pub copies_none : (config : Config) (world : World) (seat address : ℕ) (spot : ResolveSpot) → CanFollow config world seat address spot → is_copier spot ≡ false
  pub only_loads : (config : Config) (world : World) (seat address : ℕ) (spot : ResolveSpot) → CanFollow config world seat address spot → (resolves.touch_at config seat address spot).form ≡ loads
  pub answers : (config : Config) (world : World) (seat address answer : ℕ) → CanFollow config world seat address (Resolved answer) → IsAnswer config world address answer

-- nobody stands in the unit of a region
abbrev pub NobodyUpdates : Config → World → ℕ → Type 0
NobodyUpdates config world region = (seat : ℕ) (scan : Scan) → seat < seat_count config.mutators config.helpers → world.ghost.scanning seat ≡ Some scan → region_with config scan.object ≡ region → ⊥

-- A unit is done that is claimed and in which nobody stands: then no field of a current copy there names the collection set, nor does
-- one at or above its region's limit.
pub record UnitsAreUpdated : Type 0 where
  pub done : (config : Config) (world : World) (address refs nums k : ℕ) (name : Name) → Shared config world → world.memory Phase ≡ updating_phase → region_with config address < world.memory Claim → NobodyUpdates config world (region_with config address)
      → world.block address ≡ Some (thing name refs nums) → k < refs → IsCurrent world.block (world.memory (Heap (address + 3 + k)))
  pub above : (config : Config) (world : World) (address refs nums k : ℕ) (name : Name) → Shared config world → world.memory Phase ≡ updating_phase → IsYoung config (λ region. world.memory (Limit region)) address
      → world.block address ≡ Some (thing name refs nums) → k < refs → IsCurrent world.block (world.memory (Heap (address + 3 + k)))
  pub outside : (config : Config) (world : World) (value : ℕ) → Shared config world → world.memory Phase ≡ updating_phase → IsCurrent world.block value → value ≢ 0 → IsCollected config (world.memory Cset) value → ⊥

-- Where all regions are claimed and nobody stands in a unit, all fields of current copies are current.
abbrev pub AllIsUpdated : Type 0
AllIsUpdated = (config : Config) (world : World) → Shared config world → world.memory Phase ≡ updating_phase → ((seat : ℕ) → seat < seat_count config.mutators config.helpers → world.ghost.scanning seat ≡ None)
    → config.regions ≤ world.memory Claim → (address refs nums field : ℕ) (name : Name) → world.block address ≡ Some (thing name refs nums) → field < refs → IsCurrent world.block (world.memory (Heap (address + 3 + field)))
