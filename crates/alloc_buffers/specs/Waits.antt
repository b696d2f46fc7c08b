-- When a step of a machine that takes room says that another was faster, and when that the taking has ended.
use Rattle.std.specs.Prelude.{ℕ, ◌≢◌}
use Rattle.heap_words.specs.declared.config.Config.{Config}
use Rattle.regions.specs.Sets.{IsIn}
use Rattle.alloc_buffers.specs.declared.spot.Kind.{Kind}
use Rattle.alloc_buffers.specs.declared.spot.TakeSpot.{TakeSpot}
use Rattle.alloc_buffers.specs.declared.spot.TakeSpot.TheVariants.{Carve, LoadFree, TakeRegion, ShareRegion, StoreBuffer}
use Rattle.alloc_buffers.specs.Room.{MayTakeNone}

-- Another machine was faster: at TX the top is not the one that was loaded, at TG the region is not among the free ones, and at TV another
-- region is shared than was.
abbrev pub WaitsAt : TakeSpot → ℕ → Type 0
WaitsAt (Carve buffer region top room) got = got ≢ top
WaitsAt (TakeRegion buffer shared region) got = IsIn got region → ⊥
WaitsAt (ShareRegion buffer shared region) got = got ≢ shared
WaitsAt _ got = ⊥

-- A taking ends at TS, and at TF where of the free regions that are found none may be taken.
abbrev pub TakingEndsAt : Config → Kind → TakeSpot → ℕ → Type 0
TakingEndsAt config kind (StoreBuffer address room) got = Unit {0}
TakingEndsAt config kind (LoadFree buffer shared) got = MayTakeNone config kind got
TakingEndsAt config kind _ got = ⊥
