-- The rows of the steps by which a machine claims a unit and works on it: for each spot its place, the access that it makes and what
-- follows. In phase 1 it scans, in phase 2 it evacuates, and in phase 3 it updates.
use Rattle.std.specs.Prelude.{ℕ, ◌==◌, Bool, true, false, if◌then◌else◌, Option, Some, None}
use Rattle.heap_words.specs.declared.config.Config.{Config}
use Rattle.heap_words.specs.declared.place.Place.{Place}
use Rattle.heap_words.specs.declared.place.Place.TheVariants.{KX}
use Rattle.heap_words.specs.declared.access.Took.{Took}
use Rattle.heap_words.specs.declared.access.Took.TheVariants.{Done}
use Rattle.heap_words.specs.Words.{Claim}
use Rattle.heap_words.specs.Phases.{marking_phase, evacuation_phase}
use Rattle.heap_words.specs.Touch.{Touch, touch, loads}
use Rattle.unit_part.specs.declared.scan_spot.ScanSpot.{ScanSpot}
use Rattle.unit_part.specs.declared.scan_spot.ScanSpot.TheVariants as scan
use Rattle.unit_part.specs.ScanRows as scans
use Rattle.load_barrier.specs.declared.evac_spot.EvacSpot.{EvacSpot}
use Rattle.load_barrier.specs.declared.evac_spot.EvacSpot.TheVariants as evac
use Rattle.load_barrier.specs.UnitRows as evacs
use Rattle.unit_part.specs.declared.update_spot.UpdateSpot.{UpdateSpot}
use Rattle.unit_part.specs.declared.update_spot.UpdateSpot.TheVariants as update
use Rattle.unit_part.specs.UpdateRows as updates
use Rattle.unit_part.specs.declared.spot.UnitSpot.{UnitSpot}
use Rattle.unit_part.specs.declared.spot.UnitSpot.TheVariants.{Scanning, Evacuating, Updating, Ended}

-- where it begins with a unit, by the phase, which is not 0, and the collection set: in phase 1 objects are marked, in phase 2 copied,
-- and in phase 3 references are updated
abbrev pub begins : (phase cset : ℕ) → UnitSpot
begins phase cset = if phase == marking_phase then Scanning scan.LoadClaim else (if phase == evacuation_phase then Evacuating cset evac.LoadClaim else Updating cset update.LoadClaim)

-- whether it takes hints: it marks, and has claimed no unit yet
abbrev pub takes_hint : UnitSpot → Bool
takes_hint (Scanning scan.LoadClaim) = true
takes_hint _ = false

-- from where it goes on with a hint, if it has one: who takes hints scans the word of the hint's address, and claims no unit
abbrev pub hinted_by : Config → Option ℕ → UnitSpot → UnitSpot
hinted_by config None spot = spot
hinted_by config (Some address) (Scanning scan.LoadClaim) = Scanning (scans.hinted config address)
hinted_by config (Some address) spot = spot

-- the address that the next access makes grey, if it does so
abbrev pub greys_at : UnitSpot → Option ℕ
greys_at (Scanning spot) = scans.greys_at spot
greys_at _ = None

-- the place of the next access. There is none at the end, where it is named as that of the claim
abbrev pub place_at : UnitSpot → Place
place_at (Scanning spot) = scans.place_at spot
place_at (Evacuating cset spot) = evacs.place_at spot
place_at (Updating cset spot) = updates.place_at spot
place_at (Ended unit) = KX

-- the next access, of the machine of a seat
abbrev pub touch_at : Config → ℕ → UnitSpot → Touch
touch_at config seat (Scanning spot) = scans.touch_at config spot
touch_at config seat (Evacuating cset spot) = evacs.touch_at config seat spot
touch_at config seat (Updating cset spot) = updates.touch_at config spot
touch_at config seat (Ended unit) = touch Claim loads

-- where it stands that scans: the unit ends with the scan
abbrev pub scanned : ScanSpot → UnitSpot
scanned (scan.Ended unit) = Ended unit
scanned spot = Scanning spot

-- and where it stands that evacuates a collection set
abbrev pub evacuated : ℕ → EvacSpot → UnitSpot
evacuated cset (evac.Ended unit) = Ended unit
evacuated cset spot = Evacuating cset spot

-- and where it stands that updates references into a collection set
abbrev pub updated : ℕ → UpdateSpot → UnitSpot
updated cset (update.Ended unit) = Ended unit
updated cset spot = Updating cset spot

-- what follows, by the word that was found
abbrev pub next_at : Config → UnitSpot → ℕ → UnitSpot
next_at config (Scanning spot) got = scanned (scans.next_at config spot got)
next_at config (Evacuating cset spot) got = evacuated cset (evacs.next_at config cset spot got)
next_at config (Updating cset spot) got = updated cset (updates.next_at config cset spot got)
next_at config (Ended unit) got = Ended unit

-- whether the unit is done, or none was left
abbrev pub is_ended : UnitSpot → Bool
is_ended (Ended unit) = true
is_ended _ = false

-- what the step says: again where another machine was faster or it waits, and done at the end
abbrev pub says_at : Config → UnitSpot → ℕ → Took
says_at config (Scanning spot) got = scans.says_at config spot got
says_at config (Evacuating cset spot) got = evacs.says_at config cset spot got
says_at config (Updating cset spot) got = updates.says_at config cset spot got
says_at config (Ended unit) got = Done
