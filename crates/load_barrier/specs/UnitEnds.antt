-- When a step of a machine that works on a unit of evacuation says that it waits, or that another was faster, and where no unit is
-- left.
use Rattle.std.specs.Prelude.{ℕ, ◌≢◌, ◌≤◌}
use Rattle.heap_words.specs.declared.config.Config.{Config}
use Rattle.load_barrier.specs.Waits as resolves
use Rattle.load_barrier.specs.declared.evac_spot.EvacSpot.{EvacSpot}
use Rattle.load_barrier.specs.declared.evac_spot.EvacSpot.TheVariants.{LoadClaim, ClaimUnit, Resolving}

-- At KX another machine was faster: the claim word is not the one that was loaded. Besides it waits where its resolving does.
abbrev pub WaitsAt : EvacSpot → ℕ → Type 0
WaitsAt (ClaimUnit unit) got = got ≢ unit
WaitsAt (Resolving address end next spot) got = resolves.WaitsAt spot got
WaitsAt _ got = ⊥

-- At EC no unit is left: the claim word is at or past the number of regions.
abbrev pub HasNoneLeft : Config → EvacSpot → ℕ → Type 0
HasNoneLeft config LoadClaim got = config.regions ≤ got
HasNoneLeft config _ got = ⊥
