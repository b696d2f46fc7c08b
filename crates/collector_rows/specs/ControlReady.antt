-- Whether the control can make its next access.
use Rattle.std.specs.Prelude.{ℕ, ◌≡◌, ◌<◌, Bool, true, false, ◌&&◌, nat_lt, if◌then◌else◌, Option}
use Rattle.std.specs.Option.{ForSome}
use Rattle.heap_words.specs.declared.config.Config.{Config}
use Rattle.heap_words.specs.Access.{table_index}
use Rattle.heap_words.specs.Words.{Heap, IsWord, table_words}
use Rattle.heap_words.specs.Fits.{touch_fits}
use Rattle.handshake.specs.StopRows.{touch_at as stop_touch, is_ended as is_stopped}
use Rattle.unit_part.specs.Rows as units
use Rattle.unit_part.specs.Ready as unit
use Rattle.heap_world.specs.Change.{image_words}
use Rattle.collector_rows.specs.declared.control_spot.ControlSpot.{ControlSpot}
use Rattle.collector_rows.specs.declared.control_spot.ControlSpot.TheVariants.{Working, Stopping, LoadWord, StoreWord}
use Rattle.collector_rows.specs.ControlRows.{control_seat, access_with, next_spot, takes_hint}

-- whether the numbers of a spot are in range: the next access of a unit can be made, a seat is one of a mutator or a helper, an
-- index one of a word of the image
abbrev pub is_ready : Config → ControlSpot → Bool
is_ready config (Working spot) = unit.is_ready config (control_seat config) spot && (if units.is_ended spot then false else true)
is_ready config (Stopping spot) = touch_fits config (stop_touch spot) && (if is_stopped spot then false else true)
is_ready config (LoadWord index extent) = nat_lt index (image_words config)
is_ready config (StoreWord index extent) = nat_lt index (image_words config)
is_ready config _ = true

-- a hint may stand: it is the hint of an address of the heap, and the control takes hints; or there is none
abbrev pub IsHintFor : Config → ControlSpot → Option ℕ → Type 0
IsHintFor config spot hint = ForSome hint (λ address. IsWord config (Heap address) × (takes_hint spot ≡ true))

-- so the access is of a word of the table
abbrev pub AccessesAreInside : Type 0
AccessesAreInside = (config : Config) (spot : ControlSpot) (value : ℕ) → is_ready config spot ≡ true → table_index (access_with config spot value) < table_words config

-- a unit can go on from a word
abbrev pub UnitGoesOn : Config → ControlSpot → ℕ → Type 0
UnitGoesOn config (Working spot) got = unit.IsFit config (control_seat config) spot got
UnitGoesOn config _ got = Unit {0}

-- and they are in range at the next spot, whatever word is found; in a unit, where the unit can go on from it
abbrev pub StaysReady : Type 0
StaysReady = (config : Config) (phase cset seen next_index : ℕ) (spot : ControlSpot) (got : ℕ) → is_ready config spot ≡ true → UnitGoesOn config spot got → is_ready config (next_spot config phase cset seen next_index spot got) ≡ true
