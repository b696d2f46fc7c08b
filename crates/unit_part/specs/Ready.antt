-- Whether a machine that works on a unit can make its next access, and by which words it can go on.
use Rattle.std.specs.Prelude.{ℕ, ◌≡◌, ◌<◌, Bool, true, false, ◌&&◌, ⊤, if◌then◌else◌}
use Rattle.heap_words.specs.declared.config.Config.{Config}
use Rattle.heap_words.specs.Access.{table_index}
use Rattle.heap_words.specs.Ranges.{seat_count}
use Rattle.heap_words.specs.Words.{table_words}
use Rattle.heap_words.specs.Touch.{placed}
use Rattle.unit_part.specs.ScanRows as scans
use Rattle.unit_part.specs.ScanSeen as scan
use Rattle.load_barrier.specs.UnitRows as evacs
use Rattle.load_barrier.specs.UnitFit as evac
use Rattle.unit_part.specs.UpdateRows as updates
use Rattle.unit_part.specs.UpdateSeen as update
use Rattle.unit_part.specs.declared.spot.UnitSpot.{UnitSpot}
use Rattle.unit_part.specs.declared.spot.UnitSpot.TheVariants.{Scanning, Evacuating, Updating}
use Rattle.unit_part.specs.Rows.{touch_at, next_at}

-- whether the numbers of a spot are in range, for the machine of a seat: the work on the unit has not ended, and its next access can be
-- made
abbrev pub is_ready : Config → ℕ → UnitSpot → Bool
is_ready config seat (Scanning spot) = scans.is_ready config spot && (if scans.is_ended spot then false else true)
is_ready config seat (Evacuating cset spot) = evac.is_ready config seat spot && (if evacs.is_ended spot then false else true)
is_ready config seat (Updating cset spot) = updates.is_ready config spot && (if updates.is_ended spot then false else true)
is_ready config seat _ = true

-- the word is fit: the work on the unit can go on from it
abbrev pub IsFit : Config → ℕ → UnitSpot → ℕ → Type 0
IsFit config seat (Scanning spot) got = scan.IsFit config spot got
IsFit config seat (Evacuating cset spot) got = evac.IsFit config seat cset spot got
IsFit config seat (Updating cset spot) got = update.IsFit config cset spot got
IsFit config seat _ got = ⊤

-- a machine of a seat that can make its access makes it to a word of the table
abbrev pub AccessesAreInside : Type 0
AccessesAreInside = (config : Config) (seat : ℕ) (spot : UnitSpot) → seat < seat_count config.mutators config.helpers → is_ready config seat spot ≡ true → table_index (placed config (touch_at config seat spot)) < table_words config

-- and where it goes on with a word that is fit it can make the next one
abbrev pub StaysReady : Type 0
StaysReady = (config : Config) (seat : ℕ) (spot : UnitSpot) (got : ℕ) → is_ready config seat spot ≡ true → IsFit config seat spot got → is_ready config seat (next_at config spot got) ≡ true
