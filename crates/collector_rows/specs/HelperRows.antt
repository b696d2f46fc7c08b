-- The rows of a helper: for each spot its place, the access that it makes and what follows. In each round it looks whether the
-- control has ended, enters the heap, loads phase and collection set, works on one unit of the phase and leaves the heap. In phase 0
-- there is no unit, and it leaves at once.
use Rattle.std.specs.Prelude.{ℕ, ◌==◌, Bool, true, false, if◌then◌else◌, Option, Some, None}
use Rattle.heap_words.specs.declared.config.Config.{Config}
use Rattle.heap_words.specs.declared.place.Place.{Place}
use Rattle.heap_words.specs.declared.place.Place.TheVariants as place
use Rattle.heap_words.specs.declared.access.Took.{Took}
use Rattle.heap_words.specs.declared.access.Took.TheVariants.{More, Again, Done}
use Rattle.heap_words.specs.declared.access.Unit.TheVariants.{NoneLeft}
use Rattle.heap_words.specs.Words.{End, Phase, Cset}
use Rattle.heap_words.specs.Phases.{idle_phase}
use Rattle.heap_words.specs.Touch.{Touch, touch, loads}
use Rattle.handshake.specs.declared.enter_spot.EnterSpot.{EnterSpot}
use Rattle.handshake.specs.declared.enter_spot.EnterSpot.TheVariants as enter
use Rattle.handshake.specs.EnterRows.{place_at as enter_place, touch_at as enter_touch, next_at as enter_next, leave_touch}
use Rattle.unit_part.specs.declared.spot.UnitSpot.{UnitSpot}
use Rattle.unit_part.specs.declared.spot.UnitSpot.TheVariants.{Ended}
use Rattle.unit_part.specs.Rows as units
use Rattle.unit_part.specs.Hints.{one_more}
use Rattle.collector_rows.specs.declared.help_spot.HelpSpot.{HelpSpot}
use Rattle.collector_rows.specs.declared.help_spot.HelpSpot.TheVariants.{LoadEnd, Entering, LoadPhase, LoadSet, Working, Leave, Gone}

-- what the events see of a helper
pub record Helping : Type 0 where
  pub seat : ℕ
  pub spot : HelpSpot
  -- how many hints it has taken, up to 2^64 - 1
  pub hints : ℕ

-- the helper of a seat before its first round
abbrev pub fresh_helper : ℕ → Helping
fresh_helper seat = record { seat = seat; spot = LoadEnd; hints = 0 }

-- whether it has ended
abbrev pub is_gone : HelpSpot → Bool
is_gone Gone = true
is_gone _ = false

-- whether it takes hints: it is about to claim a unit of marking
abbrev pub takes_hint : HelpSpot → Bool
takes_hint (Working spot) = units.takes_hint spot
takes_hint _ = false

-- from where it goes on with a hint, if it has one
abbrev pub hinted_by : Config → Option ℕ → HelpSpot → HelpSpot
hinted_by config hint (Working spot) = Working (units.hinted_by config hint spot)
hinted_by config hint spot = spot

-- the helper as it goes on with a hint, if it has one: the hint is one more that it has taken
abbrev pub help_hinted : Config → Option ℕ → Helping → Helping
help_hinted config None helper = helper
help_hinted config (Some address) helper = record { seat = helper.seat; spot = hinted_by config (Some address) helper.spot; hints = one_more helper.hints }

-- the address that the next access makes grey, if it does so
abbrev pub greys_at : HelpSpot → Option ℕ
greys_at (Working spot) = units.greys_at spot
greys_at _ = None

-- the place of the next access. There is none at the end, where it is named as that of the last access
abbrev pub place_at : HelpSpot → Place
place_at LoadEnd = place.H0
place_at (Entering spot) = enter_place spot
place_at LoadPhase = place.PH
place_at (LoadSet phase) = place.CS
place_at (Working spot) = units.place_at spot
place_at Leave = place.LV
place_at Gone = place.H0

abbrev pub help_place : Helping → Place
help_place helper = place_at helper.spot

-- the next access, of the helper of a seat
abbrev pub touch_at : Config → ℕ → HelpSpot → Touch
touch_at config seat LoadEnd = touch End loads
touch_at config seat (Entering spot) = enter_touch seat spot
touch_at config seat LoadPhase = touch Phase loads
touch_at config seat (LoadSet phase) = touch Cset loads
touch_at config seat (Working spot) = units.touch_at config seat spot
touch_at config seat Leave = leave_touch seat
touch_at config seat Gone = touch End loads

abbrev pub help_touch : Config → Helping → Touch
help_touch config helper = touch_at config helper.seat helper.spot

-- where it stands that enters: once it is inside it loads the phase
abbrev pub after_enter : EnterSpot → HelpSpot
after_enter enter.Inside = LoadPhase
after_enter spot = Entering spot

-- where it stands that works on a unit: once that is done, or none was left, it leaves
abbrev pub after_unit : UnitSpot → HelpSpot
after_unit (Ended unit) = Leave
after_unit spot = Working spot

-- where it stands next, by the word that was found
abbrev pub next_spot : Config → HelpSpot → ℕ → HelpSpot
next_spot config LoadEnd got = if got == 1 then Gone else Entering enter.Raise
next_spot config (Entering spot) got = after_enter (enter_next spot got)
next_spot config LoadPhase got = if got == idle_phase then Leave else LoadSet got
next_spot config (LoadSet phase) got = Working (units.begins phase got)
next_spot config (Working spot) got = after_unit (units.next_at config spot got)
next_spot config Leave got = LoadEnd
next_spot config Gone got = Gone

-- what it is then
abbrev pub help_next : Config → Helping → ℕ → Helping
help_next config helper got = record { seat = helper.seat; spot = next_spot config helper.spot got; hints = helper.hints }

-- what a step of entering says: it waits while a pause is wanted
abbrev pub entering_says : EnterSpot → ℕ → Took
entering_says enter.Await got = if got == 0 then More else Again
entering_says spot got = More

-- what a step of a unit says that leads there and says this by itself: where no unit was left the helper waits, and once a unit is done
-- there is more to do
abbrev pub working_says : UnitSpot → Took → Took
working_says (Ended NoneLeft) said = Again
working_says next Done = More
working_says next said = said

-- what a step says that finds this word: that it waits, that another was faster, or that there is more to do
abbrev pub says_at : Config → HelpSpot → ℕ → Took
says_at config (Entering spot) got = entering_says spot got
says_at config LoadPhase got = if got == idle_phase then Again else More
says_at config (Working spot) got = working_says (units.next_at config spot got) (units.says_at config spot got)
says_at config _ got = More

abbrev pub help_says : Config → Helping → ℕ → Took
help_says config helper got = says_at config helper.spot got
