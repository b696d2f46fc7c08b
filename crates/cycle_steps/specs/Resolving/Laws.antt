-- What the steps of resolving an address owe.
use Rattle.std.specs.Prelude.{ℕ, ◌≡◌, ◌⊎◌, ◌+◌, ◌<◌, true, false, Some, None}
use Rattle.heap_words.specs.declared.config.Config.{Config}
use Rattle.heap_words.specs.Encoding.{plain_header, is_forwarded, forwardee_in}
use Rattle.heap_words.specs.Ranges.{seat_count}
use Rattle.heap_words.specs.Words.{Phase, Cset, Heap}
use Rattle.heap_words.specs.Phases.{evacuation_phase}
use Rattle.heap_words.specs.Touch.{loads}
use Rattle.heap_world.specs.World.{World, Body, body_at, body_words, IsCollected, HasCopy, Shared, TargetIn}
use Rattle.heap_world.specs.Rely.{KeepsCopies}
use Rattle.heap_world.specs.Part.{Part, PartSteps}
use Rattle.load_barrier.specs.declared.spot.ResolveSpot.{ResolveSpot}
use Rattle.load_barrier.specs.declared.spot.ResolveSpot.TheVariants.{LoadHeader, Copying, Resolved}
use Rattle.load_barrier.specs.declared.copying.CopySpot.TheVariants.{Publish}
use Rattle.load_barrier.specs.Rows.{touch_at, next_at, is_ended as is_resolved}
use Rattle.load_barrier.specs.Fit.{IsFit}
use Rattle.cycle_steps.specs.Resolving.Facts.{IsAnswer, CanResolve}
use Rattle.alloc_buffers.specs.Facts.{OnlySpares}

-- A machine that resolves an address. A step leaves the unit on which it works as it is.
abbrev pub resolving_part : Config → (seat address : ℕ) → Part
resolving_part config seat address = record {
  Spot = ResolveSpot;
  is_ended = is_resolved;
  touch = touch_at config seat address;
  next = next_at config address evacuation_phase;
  IsFit = IsFit config seat address evacuation_phase;
  Can = λ world spot. CanResolve config world seat address spot;
  Then = λ world next_world spot. CanResolve config next_world seat address spot × (next_world.ghost.working seat ≡ world.ghost.working seat);
}

-- A machine that resolves an address finds the object's current copy, or makes it. Its accesses to words of copies are loads, but for the
-- exchange that publishes a copy, on the object's header.
pub record ResolvingSteps : Type 0 where
  pub begins : (config : Config) (world : World) (seat address : ℕ) → seat < seat_count config.mutators config.helpers → world.memory Phase ≡ evacuation_phase → IsCollected config (world.memory Cset) address → HasCopy world.block address
      → world.ghost.copying seat ≡ false → world.ghost.recording seat ≡ None → world.ghost.scanning seat ≡ None → OnlySpares world seat → CanResolve config world seat address LoadHeader
  pub steps : (config : Config) (seat address : ℕ) → PartSteps config seat (resolving_part config seat address) (Shared config)
  pub spares : (config : Config) (world : World) (seat address : ℕ) (spot : ResolveSpot) (other_address k : ℕ) (body : Body) → Shared config world → CanResolve config world seat address spot → body_at (world.block other_address) ≡ Some body → k < body_words body
      → (touch_at config seat address spot).word ≡ Heap (other_address + k) → ((touch_at config seat address spot).form ≡ loads) ⊎ ((copy : ℕ) × (end : ℕ) × (spot ≡ Copying copy end Publish) × (other_address ≡ address) × (k ≡ 0))
  pub answers : (config : Config) (world : World) (seat address answer : ℕ) → CanResolve config world seat address (Resolved answer) → IsAnswer config world address answer

-- A header that is forwarded leads to the object's current copy, which is not. Where a step keeps copies, the header of each copy stays, or it
-- was plain and is forwarded then.
pub record HeadersLead : Type 0 where
  pub leads : (config : Config) (world : World) (address : ℕ) (body : Body) → Shared config world → body_at (world.block address) ≡ Some body → is_forwarded (world.memory (Heap address)) ≡ true
      → TargetIn config world (forwardee_in (world.memory (Heap address))) body.refs body.nums body.name × (world.memory (Heap (forwardee_in (world.memory (Heap address)))) ≡ plain_header)
  pub once : (config : Config) (earlier world : World) (address : ℕ) (body : Body) → Shared config earlier → Shared config world → KeepsCopies config earlier world → body_at (earlier.block address) ≡ Some body
      → (world.memory (Heap address) ≡ earlier.memory (Heap address)) ⊎ ((earlier.memory (Heap address) ≡ plain_header) × (is_forwarded (world.memory (Heap address)) ≡ true))
