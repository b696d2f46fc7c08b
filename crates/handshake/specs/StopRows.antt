-- The rows of the steps by which the control stops mutators and helpers, and lets them go on: for each spot its place, the access that
-- it makes and what follows.
use Rattle.std.specs.Prelude.{ℕ, ◌+◌, ◌==◌, Bool, true, false, nat_lt, if◌then◌else◌}
use Rattle.heap_words.specs.declared.config.Config.{Config}
use Rattle.heap_words.specs.declared.place.Place.{Place}
use Rattle.heap_words.specs.declared.place.Place.TheVariants as place
use Rattle.heap_words.specs.declared.access.Took.{Took}
use Rattle.heap_words.specs.declared.access.Took.TheVariants.{More, Again, Done}
use Rattle.heap_words.specs.Words.{Pause, State}
use Rattle.heap_words.specs.Touch.{Touch, touch, loads, stores}
use Rattle.handshake.specs.declared.stop_spot.StopSpot.{StopSpot}
use Rattle.handshake.specs.declared.stop_spot.StopSpot.TheVariants as stop

-- the place of the control's next access. There is none at the end, where it is named as that of the last access
abbrev pub place_at : StopSpot → Place
place_at stop.Raise = place.P1
place_at (stop.Check seat) = place.P2
place_at stop.Stopped = place.P2

-- the control's next access
abbrev pub touch_at : StopSpot → Touch
touch_at stop.Raise = touch Pause (stores 1)
touch_at (stop.Check seat) = touch (State seat) loads
touch_at stop.Stopped = touch Pause loads

-- what follows once a seat is out: the next seat is checked, if there is one
abbrev pub after_seat : Config → ℕ → StopSpot
after_seat config seat = if nat_lt (seat + 1) (config.mutators + config.helpers) then stop.Check (seat + 1) else stop.Stopped

-- what follows, by the word that was found
abbrev pub next_at : Config → StopSpot → ℕ → StopSpot
next_at config stop.Raise got = stop.Check 0
next_at config (stop.Check seat) got = if got == 0 then after_seat config seat else stop.Check seat
next_at config stop.Stopped got = stop.Stopped

-- whether all seats are out
abbrev pub is_ended : StopSpot → Bool
is_ended stop.Stopped = true
is_ended _ = false

-- what a step says that finds this word
abbrev pub says_at : Config → StopSpot → ℕ → Took
says_at config stop.Raise got = More
says_at config (stop.Check seat) got = if got == 0 then (if is_ended (after_seat config seat) then Done else More) else Again
says_at config stop.Stopped got = Done

-- the access by which the control ends a pause
abbrev pub go_touch : Touch
go_touch = touch Pause (stores 0)
