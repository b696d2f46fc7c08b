-- When a step of a machine that scans says that another was faster, and by which words it ends.
use Rattle.std.specs.Prelude.{ℕ, ◌≡◌, ◌≢◌, ◌≤◌}
use Rattle.heap_words.specs.declared.config.Config.{Config}
use Rattle.unit_part.specs.declared.scan_spot.ScanSpot.{ScanSpot}
use Rattle.unit_part.specs.declared.scan_spot.ScanSpot.TheVariants.{LoadClaim, ClaimUnit, LoadBlack}
use Rattle.unit_part.specs.ScanRows.{unit_limit, unscanned_in}

-- At KX another machine was faster: the claim word is not the one that was loaded.
abbrev pub WaitsAt : ScanSpot → ℕ → Type 0
WaitsAt (ClaimUnit unit) got = got ≢ unit
WaitsAt _ got = ⊥

-- At MC no unit is left: the claim word is at or past their number.
abbrev pub HasNoneLeft : Config → ScanSpot → ℕ → Type 0
HasNoneLeft config LoadClaim got = unit_limit config ≤ got
HasNoneLeft config _ got = ⊥

-- At MB the unit is done: none of the grey bits that were loaded is not black.
abbrev pub IsDoneAt : ScanSpot → ℕ → Type 0
IsDoneAt (LoadBlack word grey) got = unscanned_in grey got ≡ 0
IsDoneAt _ got = ⊥
