-- What the steps of recording and of scanning owe.
use Rattle.std.specs.Prelude.{ℕ, ◌≡◌, ◌≢◌, ◌<◌, ◌==◌, if◌then◌else◌, Some, None, ⊤}
use Rattle.heap_words.specs.declared.config.Config.{Config}
use Rattle.heap_words.specs.Ranges.{seat_count}
use Rattle.heap_words.specs.Words.{Phase}
use Rattle.heap_words.specs.Phases.{marking_phase}
use Rattle.heap_world.specs.World.{World, hand, with_recording, IsMarkable, NotedIn, Shared}
use Rattle.heap_world.specs.Rely.{Keeps, Rely}
use Rattle.heap_world.specs.Part.{SameWork, Part, PartSteps}
use Rattle.satb_barrier.specs.declared.spot.RememberSpot.{RememberSpot}
use Rattle.satb_barrier.specs.declared.spot.RememberSpot.TheVariants.{LoadCount}
use Rattle.satb_barrier.specs.Rows as remember
use Rattle.unit_part.specs.declared.scan_spot.ScanSpot.{ScanSpot}
use Rattle.unit_part.specs.declared.scan_spot.ScanSpot.TheVariants.{LoadClaim}
use Rattle.unit_part.specs.ScanRows as scan
use Rattle.unit_part.specs.ScanSeen as seen
use Rattle.cycle_steps.specs.Recording.{CanRecord}
use Rattle.cycle_steps.specs.Scanning.{CanScan}

-- A mutator that records an address. As all of marking, a step leaves who copies and works as it is, and each piece.
abbrev pub recording_part : Config → (mutator recorded : ℕ) → Part
recording_part config mutator recorded = record {
  Spot = RememberSpot;
  is_ended = remember.is_ended;
  touch = remember.touch_at config mutator recorded;
  next = remember.next_at;
  IsFit = remember.IsFit config;
  Can = λ world spot. CanRecord config world mutator recorded spot;
  Then = λ world next_world spot. CanRecord config next_world mutator recorded spot × SameWork world next_world mutator × (next_world.block ≡ world.block);
}

-- the world in which a mutator has an address in hand
abbrev pub with_in_hand : World → ℕ → ℕ → World
with_in_hand world mutator address = record { memory = world.memory; block = world.block; ghost = with_recording world.ghost (λ seat. if mutator == seat then Some address else world.ghost.recording seat); graph = world.graph }

-- to take an address in hand changes nothing that others rely on, and from then on the mutator can record it
pub record TakesInHand (config : Config) (world : World) (mutator recorded : ℕ) : Type 0 where
  pub shared : Shared config (with_in_hand world mutator recorded)
  pub own : CanRecord config (with_in_hand world mutator recorded) mutator recorded LoadCount
  pub keeps : Keeps config mutator world (with_in_hand world mutator recorded)
  pub others : (seat : ℕ) → seat ≢ mutator → Rely config seat world (with_in_hand world mutator recorded)
  pub noted : NotedIn config (with_in_hand world mutator recorded) recorded

-- A mutator that overwrites a reference records it. What it finds is fit wherever it stands.
pub record RecordingSteps : Type 0 where
  pub begins : (config : Config) (world : World) (mutator recorded : ℕ) → mutator < config.mutators → world.memory Phase ≡ marking_phase → IsMarkable world.block recorded
      → world.ghost.recording mutator ≡ None → world.ghost.scanning mutator ≡ None → ((address words : ℕ) → world.block address ≡ Some (hand mutator words) → ⊥) → Shared config world → TakesInHand config world mutator recorded
  pub steps : (config : Config) (mutator recorded : ℕ) → PartSteps config mutator (recording_part config mutator recorded) (λ world. ⊤)
  pub fits : (config : Config) (world : World) (mutator recorded : ℕ) (spot : RememberSpot) → CanRecord config world mutator recorded spot → remember.IsFit config spot (world.memory (remember.touch_at config mutator recorded spot).word)
  pub noted : (config : Config) (world : World) (mutator recorded : ℕ) (spot : RememberSpot) → CanRecord config world mutator recorded spot → NotedIn config world recorded

-- a machine that scans
abbrev pub scanning_part : Config → (seat : ℕ) → Part
scanning_part config seat = record {
  Spot = ScanSpot;
  is_ended = scan.is_ended;
  touch = scan.touch_at config;
  next = scan.next_at config;
  IsFit = seen.IsFit config;
  Can = λ world spot. CanScan config world seat spot;
  Then = λ world next_world spot. CanScan config next_world seat spot × SameWork world next_world seat × (next_world.block ≡ world.block);
}

-- A machine that scans makes grey what the fields of black objects name.
pub record ScanningSteps : Type 0 where
  pub begins : (config : Config) (world : World) (seat : ℕ) → seat < seat_count config.mutators config.helpers → world.memory Phase ≡ marking_phase → world.ghost.recording seat ≡ None → world.ghost.scanning seat ≡ None → ((address words : ℕ) → world.block address ≡ Some (hand seat words) → ⊥) → CanScan config world seat LoadClaim
  -- who has claimed no unit may take any hint
  pub hinted : (config : Config) (world : World) (seat address : ℕ) → CanScan config world seat LoadClaim → CanScan config world seat (scan.hinted config address)
  pub steps : (config : Config) (seat : ℕ) → PartSteps config seat (scanning_part config seat) (λ world. ⊤)
