-- What callers know of a machine that scans a unit.
use Rattle.std.specs.Prelude.{ℕ, ◌≡◌, true}
use Rattle.heap_words.specs.declared.config.Config.{Config}
use Rattle.unit_part.specs.declared.scan_spot.ScanSpot.{ScanSpot}
use Rattle.unit_part.specs.declared.scan_unit.ScanUnit.{ScanUnit}
use Rattle.unit_part.specs.ScanRows.{next_at, is_ready}

abbrev pub config_of : ScanUnit → Config
config_of scan_unit = scan_unit.config

-- where it stands
abbrev pub spot_of : ScanUnit → ScanSpot
spot_of scan_unit = scan_unit.spot

-- the word is fit: the access that follows can be made
abbrev pub IsFit : Config → ScanSpot → ℕ → Type 0
IsFit config spot got = is_ready config (next_at config spot got) ≡ true
