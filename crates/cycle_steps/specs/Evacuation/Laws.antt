-- What the steps by which machines evacuate the collection set owe, and what all claimed units come to.
use Rattle.std.specs.Prelude.{ℕ, ◌≡◌, ◌⊎◌, ◌+◌, ◌<◌, ◌≤◌, true, false, Some, None}
use Rattle.heap_words.specs.declared.config.Config.{Config}
use Rattle.heap_words.specs.Encoding.{is_forwarded}
use Rattle.heap_words.specs.Ranges.{seat_count}
use Rattle.heap_words.specs.Words.{Phase, Cset, Evac, Claim, Black, Heap}
use Rattle.heap_words.specs.Touch.{loads}
use Rattle.regions.specs.Place.{region_with}
use Rattle.regions.specs.Sets.{IsIn}
use Rattle.regions.specs.Marks.{HasMark}
use Rattle.heap_words.specs.Counter.{is_out_of_room}
use Rattle.heap_words.specs.Phases.{evacuation_phase}
use Rattle.heap_world.specs.World.{World, Body, body_at, body_words, Shared, IsCollected}
use Rattle.heap_world.specs.Rely.{KeepsCopies}
use Rattle.heap_world.specs.Part.{PartStep, Part, PartSteps}
use Rattle.load_barrier.specs.declared.evac_spot.EvacSpot.{EvacSpot}
use Rattle.load_barrier.specs.declared.evac_spot.EvacSpot.TheVariants.{LoadClaim}
use Rattle.load_barrier.specs.UnitRows.{touch_at, next_at, is_ended}
use Rattle.load_barrier.specs.UnitFit.{IsFit}
use Rattle.cycle_steps.specs.Evacuation.Facts.{working_of, IsSwept, HasNothing, CanEvacuate}

-- where a machine stands after a step
abbrev pub spot_then : Config → World → ℕ → ℕ → EvacSpot → EvacSpot
spot_then config world seat cset spot = next_at config cset spot (world.memory (touch_at config seat spot).word)

-- a machine that evacuates
abbrev pub evacuating_part : Config → (seat cset : ℕ) → Part
evacuating_part config seat cset = record {
  Spot = EvacSpot;
  is_ended = is_ended;
  touch = touch_at config seat;
  next = next_at config cset;
  IsFit = IsFit config seat cset;
  Can = λ world spot. CanEvacuate config world seat cset spot;
  Then = λ world next_world spot. CanEvacuate config next_world seat cset spot;
}

-- once it ends a unit, the region on which it worked is swept
abbrev pub SweptStep : Config → World → ℕ → ℕ → EvacSpot → Type 0
SweptStep config world seat cset spot = PartStep config world seat (touch_at config seat spot)
    (λ w. (region : ℕ) → working_of config spot ≡ Some region → is_ended (spot_then config world seat cset spot) ≡ true → IsSwept config w region)

-- A machine that evacuates claims regions of the collection set, and sees to it that their objects are copied: a region on which it has
-- worked is swept, and stays so. Of the words of copies only headers are accessed by more than loads.
pub record EvacuatingSteps : Type 0 where
  pub begins : (config : Config) (world : World) (seat : ℕ) → seat < seat_count config.mutators config.helpers → world.memory Phase ≡ evacuation_phase → world.ghost.working seat ≡ None → HasNothing world seat
      → CanEvacuate config world seat (world.memory Cset) LoadClaim
  pub steps : (config : Config) (seat cset : ℕ) → PartSteps config seat (evacuating_part config seat cset) (Shared config)
  pub sweeps : (config : Config) (world : World) (seat cset : ℕ) (spot : EvacSpot) → is_ended spot ≡ false → Shared config world → CanEvacuate config world seat cset spot → SweptStep config world seat cset spot
  pub stays_swept : (config : Config) (world after : World) (region : ℕ) → KeepsCopies config world after → IsIn (world.memory Cset) region → IsSwept config world region → IsSwept config after region
  pub spares : (config : Config) (world : World) (seat cset : ℕ) (spot : EvacSpot) (address k : ℕ) (body : Body) → Shared config world → CanEvacuate config world seat cset spot → body_at (world.block address) ≡ Some body → k < body_words body
      → (touch_at config seat spot).word ≡ Heap (address + k) → ((touch_at config seat spot).form ≡ loads) ⊎ (k ≡ 0)

-- In a region that is swept each marked object is forwarded, if there was always room.
abbrev pub SweptIsForwarded : Type 0
SweptIsForwarded = (config : Config) (world : World) (address : ℕ) → Shared config world → world.memory Phase ≡ evacuation_phase → IsSwept config world (region_with config address) → is_out_of_room (world.memory Evac) ≡ false
    → config.region_words ≤ address → IsCollected config (world.memory Cset) address → HasMark config (λ number. world.memory (Black number)) address → is_forwarded (world.memory (Heap address)) ≡ true

-- Where all units are claimed, nobody works on one, and there was always room, each marked object of the collection set is forwarded.
abbrev pub AllIsForwarded : Type 0
AllIsForwarded = (config : Config) (world : World) → Shared config world → world.memory Phase ≡ evacuation_phase → ((seat : ℕ) → seat < seat_count config.mutators config.helpers → world.ghost.working seat ≡ None)
    → config.regions ≤ world.memory Claim → is_out_of_room (world.memory Evac) ≡ false
    → (address : ℕ) → config.region_words ≤ address → IsCollected config (world.memory Cset) address → HasMark config (λ number. world.memory (Black number)) address → is_forwarded (world.memory (Heap address)) ≡ true
