-- When a step of a machine that works on a unit says that it waits, or that another was faster, and where no unit is left.
use Rattle.std.specs.Prelude.{ℕ}
use Rattle.heap_words.specs.declared.config.Config.{Config}
use Rattle.unit_part.specs.ScanEnds as scans
use Rattle.load_barrier.specs.UnitEnds as evacs
use Rattle.unit_part.specs.UpdateEnds as updates
use Rattle.unit_part.specs.declared.spot.UnitSpot.{UnitSpot}
use Rattle.unit_part.specs.declared.spot.UnitSpot.TheVariants.{Scanning, Evacuating, Updating}

-- It waits where scanning, evacuating or updating does: at KX the claim word is not the one that was loaded, and where it resolves an
-- address it waits as the resolving does.
abbrev pub WaitsAt : UnitSpot → ℕ → Type 0
WaitsAt (Scanning spot) got = scans.WaitsAt spot got
WaitsAt (Evacuating cset spot) got = evacs.WaitsAt spot got
WaitsAt (Updating cset spot) got = updates.WaitsAt spot got
WaitsAt _ got = ⊥

-- At MC, EC and UC no unit is left: the claim word is at or past the number of units.
abbrev pub HasNoneLeft : Config → UnitSpot → ℕ → Type 0
HasNoneLeft config (Scanning spot) got = scans.HasNoneLeft config spot got
HasNoneLeft config (Evacuating cset spot) got = evacs.HasNoneLeft config spot got
HasNoneLeft config (Updating cset spot) got = updates.HasNoneLeft config spot got
HasNoneLeft config _ got = ⊥
