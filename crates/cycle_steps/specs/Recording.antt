-- What a mutator counts on while it records an address, where objects are marked from a snapshot.
use Rattle.std.specs.Prelude.{ℕ, ◌≡◌, ◌<◌, Option, Some, None}
use Rattle.heap_words.specs.declared.config.Config.{Config}
use Rattle.heap_words.specs.Words.{Phase}
use Rattle.heap_words.specs.Phases.{marking_phase}
use Rattle.heap_world.specs.World.{World, hand, IsMarkable}
use Rattle.satb_barrier.specs.declared.spot.RememberSpot.{RememberSpot}
use Rattle.satb_barrier.specs.declared.spot.RememberSpot.TheVariants.{Recorded}
use Rattle.satb_barrier.specs.Facts.{CanRemember}

-- the address that it has in hand, by where it stands: none once the address is recorded
abbrev pub recording_of : RememberSpot → ℕ → Option ℕ
recording_of Recorded address = None
recording_of _ address = Some address

-- Objects are marked, and the address is one that can be. The mutator has it in hand until it is recorded; it scans nothing, and has no
-- room in hand.
pub record CanRecord (config : Config) (world : World) (mutator recorded : ℕ) (spot : RememberSpot) : Type 0 where
  pub seated : mutator < config.mutators
  pub phase : world.memory Phase ≡ marking_phase
  pub markable : IsMarkable world.block recorded
  pub recording : world.ghost.recording mutator ≡ recording_of spot recorded
  pub scanning : world.ghost.scanning mutator ≡ None
  pub hands : (address words : ℕ) → world.block address ≡ Some (hand mutator words) → ⊥
  pub words : CanRemember config world.memory mutator recorded spot
