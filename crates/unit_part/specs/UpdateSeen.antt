-- What callers know of a machine that updates a unit.
use Rattle.std.specs.Prelude.{ℕ, ◌≡◌, true}
use Rattle.heap_words.specs.declared.config.Config.{Config}
use Rattle.unit_part.specs.declared.update_spot.UpdateSpot.{UpdateSpot}
use Rattle.unit_part.specs.declared.update_unit.UpdateUnit.{UpdateUnit}
use Rattle.unit_part.specs.UpdateRows.{next_at, is_ready}

abbrev pub config_of : UpdateUnit → Config
config_of update_unit = update_unit.config

-- the collection set
abbrev pub set_of : UpdateUnit → ℕ
set_of update_unit = update_unit.cset

-- where it stands
abbrev pub spot_of : UpdateUnit → UpdateSpot
spot_of update_unit = update_unit.spot

-- the word is fit: the access that follows can be made
abbrev pub IsFit : Config → ℕ → UpdateSpot → ℕ → Type 0
IsFit config cset spot got = is_ready config (next_at config cset spot got) ≡ true
