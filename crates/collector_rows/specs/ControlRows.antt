-- The rows of the control: for each spot its place, the access that it makes and what follows. While objects are marked, in phase
-- 1, while they are copied, in phase 2, and while references are updated, in phase 3, it works on units as helpers do, and once none
-- is left it makes the pause that ends the phase.
use Rattle.std.specs.Prelude.{ℕ, ◌+◌, ◌*◌, ◌==◌, Bool, true, false, ◌&&◌, ◌||◌, nat_lt, List, [], ◌∷◌, ◌++◌, slice_index, if◌then◌else◌, Option, Some, None}
use Rattle.std.specs.Int.{bit_at}
use Rattle.heap_words.specs.declared.config.Config.{Config}
use Rattle.heap_words.specs.declared.access.Access.{Access}
use Rattle.heap_words.specs.declared.access.Access.TheVariants.{Load, Store}
use Rattle.heap_words.specs.declared.access.Took.{Took}
use Rattle.heap_words.specs.declared.access.Took.TheVariants.{More, Again, Done}
use Rattle.heap_words.specs.declared.place.Place.{Place}
use Rattle.heap_words.specs.declared.place.Place.TheVariants as place
use Rattle.heap_words.specs.Words.{Word, Left, End, Ask, Free, Phase, Cset, image_start}
use Rattle.heap_words.specs.Touch.{Touch, touch, loads, stores, placed}
use Rattle.regions.specs.Sets.{members_below}
use Rattle.handshake.specs.declared.stop_spot.StopSpot.{StopSpot}
use Rattle.handshake.specs.declared.stop_spot.StopSpot.TheVariants as stop
use Rattle.handshake.specs.StopRows.{place_at as stop_place, touch_at as stop_touch, next_at as stop_next, go_touch}
use Rattle.heap_words.specs.declared.access.Unit.TheVariants.{Worked, NoneLeft}
use Rattle.heap_words.specs.Phases.{idle_phase}
use Rattle.unit_part.specs.declared.spot.UnitSpot.{UnitSpot}
use Rattle.unit_part.specs.declared.spot.UnitSpot.TheVariants.{Ended}
use Rattle.unit_part.specs.Rows as units
use Rattle.unit_part.specs.Hints.{one_more}
use Rattle.heap_world.specs.Change.{Change, image_view, image_words}
use Rattle.collector_rows.specs.declared.extent.Extent.{Extent}
use Rattle.collector_rows.specs.Extent.{next_loaded, first_extent, extent_after, padded, next_stored}
use Rattle.collector_rows.specs.declared.control_spot.ControlSpot.{ControlSpot}
use Rattle.collector_rows.specs.declared.control_spot.ControlSpot.TheVariants.{LookLeft, StoreEnd, LookAsked, LookFree, Working, Stopping, LoadWord, StoreWord, Go, Gone}

-- what the events see of the control
pub record Controlling : Type 0 where
  pub spot : ControlSpot
  -- the free word that it has seen: that of the image at the end of its last pause that ended with phase 0
  pub seen : ℕ
  -- the phase and the collection set at the end of its last pause
  pub phase : ℕ
  pub cset : ℕ
  -- the words of the image that it has loaded so far, and 0 for those that it leaves out; those of the new image while it stores them; outside
  -- pauses none
  pub image : List ℕ
  -- how many hints it has taken, up to 2^64 - 1
  pub hints : ℕ

-- the control's seat is behind those of the mutators and the helpers
abbrev pub control_seat : Config → ℕ
control_seat config = config.mutators + config.helpers

-- whether it has ended
abbrev pub is_gone : ControlSpot → Bool
is_gone Gone = true
is_gone _ = false

-- whether it takes hints: it is about to claim a unit of marking
abbrev pub takes_hint : ControlSpot → Bool
takes_hint (Working spot) = units.takes_hint spot
takes_hint _ = false

-- from where it goes on with a hint, if it has one
abbrev pub hinted_by : Config → Option ℕ → ControlSpot → ControlSpot
hinted_by config hint (Working spot) = Working (units.hinted_by config hint spot)
hinted_by config hint spot = spot

-- the control as it goes on with a hint, if it has one: the hint is one more that it has taken
abbrev pub control_hinted : Config → Option ℕ → Controlling → Controlling
control_hinted config None control = control
control_hinted config (Some address) control =
    record { spot = hinted_by config (Some address) control.spot; seen = control.seen; phase = control.phase; cset = control.cset; image = control.image; hints = one_more control.hints }

-- the address that the next access makes grey, if it does so
abbrev pub greys_at : ControlSpot → Option ℕ
greys_at (Working spot) = units.greys_at spot
greys_at _ = None

-- the place of the next access. There is none at the end, where it is named as that of the last access
abbrev pub control_place : ControlSpot → Place
control_place LookLeft = place.I0
control_place StoreEnd = place.IE
control_place LookAsked = place.I1
control_place LookFree = place.I2
control_place (Working spot) = units.place_at spot
control_place (Stopping spot) = stop_place spot
control_place (LoadWord index extent) = place.PL
control_place (StoreWord index extent) = place.PS
control_place Go = place.P3
control_place Gone = place.IE

-- the next access of a word that is not of the image
abbrev pub control_touch : Config → ControlSpot → Touch
control_touch config LookLeft = touch Left loads
control_touch config StoreEnd = touch End (stores 1)
control_touch config LookAsked = touch Ask loads
control_touch config LookFree = touch Free loads
control_touch config (Working spot) = units.touch_at config (control_seat config) spot
control_touch config (Stopping spot) = stop_touch spot
control_touch config Go = go_touch
control_touch config _ = touch Left loads

-- the next access, by the word of the new image that is stored. The words of the image are accessed by their places
abbrev pub access_with : Config → ControlSpot → ℕ → Access
access_with config (LoadWord index extent) value = Load (image_start config + index)
access_with config (StoreWord index extent) value = Store (image_start config + index) value
access_with config spot value = placed config (control_touch config spot)

-- the word of the new image that a spot stores
abbrev pub word_stored : ControlSpot → List ℕ → ℕ
word_stored (StoreWord index extent) image = slice_index image index
word_stored _ image = 0

-- the next access
abbrev pub control_access : Config → Controlling → Access
control_access config control = access_with config control.spot (word_stored control.spot control.image)

-- where it stands that stops the other machines: once they are stopped it loads the image
abbrev pub stopping : Config → ℕ → StopSpot → ControlSpot
stopping config phase stop.Stopped = LoadWord 0 (first_extent config phase)
stopping config phase spot = Stopping spot

-- where it stands that works on a unit: once that is done it looks again what is to do, and once none was left it makes a pause
abbrev pub after_unit : UnitSpot → ControlSpot
after_unit (Ended Worked) = LookLeft
after_unit (Ended NoneLeft) = Stopping stop.Raise
after_unit spot = Working spot

-- whether a pause is asked for: by bit 1 because a mutator waits for room, and in phase 0 by bit 0 for a cycle
abbrev pub begins_pause : ℕ → ℕ → Bool
begins_pause phase asked = (bit_at asked 1 == 1) || ((phase == idle_phase) && (bit_at asked 0 == 1))

-- what it does where no pause is asked for: in phase 0 it looks at the free word, and in each other it claims a unit
abbrev pub unasked : (phase cset : ℕ) → ControlSpot
unasked phase cset = if phase == idle_phase then LookFree else Working (units.begins phase cset)

-- whether the free word calls for a pause: fewer than half of the regions are free, and it is not the word seen
abbrev pub wants_pause : Config → ℕ → ℕ → Bool
wants_pause config seen free_word = nat_lt (2 * members_below free_word 64) config.regions && (if free_word == seen then false else true)

-- where it stands once a word of the image was loaded, and once one of the new image was stored, by the index of the next one
abbrev pub after_load : Config → Extent → ℕ → ControlSpot
after_load config extent index = if nat_lt (next_loaded config extent index) (image_words config) then LoadWord (next_loaded config extent index) extent else StoreWord 0 extent

abbrev pub after_store : Config → Extent → ℕ → ControlSpot
after_store config extent next_index = if nat_lt next_index (image_words config) then StoreWord next_index extent else Go

-- where it stands next, by the phase, the collection set, the free word that it has seen, the index of the word of the new image that is
-- stored next, and the word that was found
abbrev pub next_spot : Config → (phase cset seen next_index : ℕ) → ControlSpot → ℕ → ControlSpot
next_spot config phase cset seen next_index LookLeft got = if got == 0 then StoreEnd else LookAsked
next_spot config phase cset seen next_index StoreEnd got = Gone
next_spot config phase cset seen next_index LookAsked got = if begins_pause phase got then Stopping stop.Raise else unasked phase cset
next_spot config phase cset seen next_index LookFree got = if wants_pause config seen got then Stopping stop.Raise else LookLeft
next_spot config phase cset seen next_index (Working spot) got = after_unit (units.next_at config spot got)
next_spot config phase cset seen next_index (Stopping spot) got = stopping config phase (stop_next config spot got)
next_spot config phase cset seen next_index (LoadWord index extent) got = after_load config (extent_after phase index extent got) index
next_spot config phase cset seen next_index (StoreWord index extent) got = after_store config extent next_index
next_spot config phase cset seen next_index Go got = LookLeft
next_spot config phase cset seen next_index Gone got = Gone

-- the index of the word of the new image that is stored behind that of a spot
abbrev pub stored_next : Config → ControlSpot → List ℕ → ℕ
stored_next config (StoreWord index extent) image = next_stored config extent image index
stored_next config _ image = 0

-- the words of the image once this one was loaded: with 0 for those that are left out before the next one
abbrev pub loaded_on : (next_index : ℕ) → List ℕ → ℕ → List ℕ
loaded_on next_index image got = padded next_index (image ++ got ∷ [])

-- and once the last one was, of all of the image
abbrev pub loaded_all : Config → List ℕ → ℕ → List ℕ
loaded_all config image got = padded (image_words config) (image ++ got ∷ [])

-- whether there is a word that is loaded behind that of an index
abbrev pub loads_more : Config → (phase index : ℕ) → Extent → (got : ℕ) → Bool
loads_more config phase index extent got = nat_lt (next_loaded config (extent_after phase index extent got) index) (image_words config)

-- the image then: with the last word that is loaded it is changed
abbrev pub next_image : Change → Config → ControlSpot → List ℕ → (phase got : ℕ) → List ℕ
next_image change config (LoadWord index extent) image phase got =
    if loads_more config phase index extent got then loaded_on (next_loaded config (extent_after phase index extent got) index) image got else change config (loaded_all config image got)
next_image change config (StoreWord index extent) image phase got = if nat_lt (next_stored config extent image index) (image_words config) then image else []
next_image change config _ image phase got = []

-- the free word that it has seen after a pause: that of the new image, if the pause has ended with phase 0
abbrev pub seen_after : ℕ → (Word → ℕ) → ℕ
seen_after seen memory = if memory Phase == idle_phase then memory Free else seen

-- the free word that it has seen then
abbrev pub next_seen : Change → Config → ControlSpot → List ℕ → (seen phase got : ℕ) → ℕ
next_seen change config (LoadWord index extent) image seen phase got = if loads_more config phase index extent got then seen else seen_after seen (image_view config (change config (loaded_all config image got)))
next_seen change config _ image seen phase got = seen

-- the phase then: that of the new image, once there is one
abbrev pub next_phase : Change → Config → ControlSpot → List ℕ → (phase got : ℕ) → ℕ
next_phase change config (LoadWord index extent) image phase got = if loads_more config phase index extent got then phase else image_view config (change config (loaded_all config image got)) Phase
next_phase change config _ image phase got = phase

-- the collection set then: that of the new image, once there is one
abbrev pub next_set : Change → Config → ControlSpot → List ℕ → (cset phase got : ℕ) → ℕ
next_set change config (LoadWord index extent) image cset phase got = if loads_more config phase index extent got then cset else image_view config (change config (loaded_all config image got)) Cset
next_set change config _ image cset phase got = cset

-- what it is then
abbrev pub control_next : Change → Config → Controlling → ℕ → Controlling
control_next change config control got = record {
  spot = next_spot config control.phase control.cset control.seen (stored_next config control.spot control.image) control.spot got;
  seen = next_seen change config control.spot control.image control.seen control.phase got;
  phase = next_phase change config control.spot control.image control.phase got;
  cset = next_set change config control.spot control.image control.cset control.phase got;
  image = next_image change config control.spot control.image control.phase got;
  hints = control.hints;
}

-- what a step of stopping says: again while the seat is not out
abbrev pub stopping_says : StopSpot → ℕ → Took
stopping_says (stop.Check seat) got = if got == 0 then More else Again
stopping_says spot got = More

-- what a step of a unit says that says this by itself: once the unit is done, or none was left, there is more to do
abbrev pub working_says : Took → Took
working_says Done = More
working_says said = said

-- what a step says that finds this word: that it waits, that another machine was faster, or that there is more to do
abbrev pub says_at : Config → ℕ → ControlSpot → ℕ → Took
says_at config seen LookFree got = if wants_pause config seen got then More else Again
says_at config seen (Working spot) got = working_says (units.says_at config spot got)
says_at config seen (Stopping spot) got = stopping_says spot got
says_at config seen _ got = More

abbrev pub control_says : Config → Controlling → ℕ → Took
control_says config control got = says_at config control.seen control.spot got
