-- The steps that take room, of any seat and for whatever it is taken.
use Rattle.std.proofs.Common.{◌≡◌, ℕ, false}
use Rattle.heap_words.specs.declared.config.Config.{Config}
use Rattle.heap_world.specs.World.{World, Shared}
use Rattle.alloc_buffers.specs.declared.spot.Kind.{Kind}
use Rattle.alloc_buffers.specs.declared.spot.TakeSpot.{TakeSpot}
use Rattle.alloc_buffers.specs.declared.spot.TakeSpot.TheVariants.{LoadBuffer, LoadShared, LoadTop, Carve, LoadFree, TakeRegion, ShareRegion, GiveBack, Fill, StoreBuffer, Ended}
use Rattle.alloc_buffers.specs.Rows.{is_ended}
use Rattle.alloc_buffers.specs.Facts.{CanTake}
use Rattle.alloc_buffers.proofs.TakeSteps as steps
use Rattle.alloc_buffers.proofs.TakeLoads.{at_load_buffer, at_load_shared, at_load_top, at_load_free}
use Rattle.alloc_buffers.proofs.TakeRegions.{at_take_region, at_share_region, at_give_back}
use Rattle.alloc_buffers.proofs.Carving.{at_carve}
use Rattle.alloc_buffers.proofs.Filling.{at_fill}
use Rattle.alloc_buffers.proofs.Storing.{at_store_buffer}

-- what a step of a taking of room owes
abbrev pub TakeStep : Config → World → ℕ → ℕ → Kind → TakeSpot → Type 0
TakeStep = steps.TakeStep

-- each step of a taking owes what a part owes
pub each_take : (config : Config) (world : World) (seat words : ℕ) (kind : Kind) (spot : TakeSpot) → is_ended spot ≡ false → Shared config world → CanTake config world seat words spot → TakeStep config world seat words kind spot
each_take config world seat words kind LoadBuffer spot_going shared can_take = at_load_buffer config world seat words kind shared can_take
each_take config world seat words kind (LoadShared buffer) spot_going shared can_take = at_load_shared config world seat words kind buffer shared can_take
each_take config world seat words kind (LoadTop buffer region) spot_going shared can_take = at_load_top config world seat words kind buffer region shared can_take
each_take config world seat words kind (Carve buffer region top room) spot_going shared can_take = at_carve config world seat words kind buffer region top room shared can_take
each_take config world seat words kind (LoadFree buffer shared_word) spot_going shared can_take = at_load_free config world seat words kind buffer shared_word shared can_take
each_take config world seat words kind (TakeRegion buffer shared_word region) spot_going shared can_take = at_take_region config world seat words kind buffer shared_word region shared can_take
each_take config world seat words kind (ShareRegion buffer shared_word region) spot_going shared can_take = at_share_region config world seat words kind buffer shared_word region shared can_take
each_take config world seat words kind (GiveBack buffer region) spot_going shared can_take = at_give_back config world seat words kind buffer region shared can_take
each_take config world seat words kind (Fill buffer address room) spot_going shared can_take = at_fill config world seat words kind buffer address room shared can_take
each_take config world seat words kind (StoreBuffer address room) spot_going shared can_take = at_store_buffer config world seat words kind address room shared can_take
each_take config world seat words kind (Ended taken end) spot_going shared can_take = cc
