-- The rows of the steps by which mutators and helpers enter and leave the heap: for each spot its place, the access that it makes and
-- what follows. A state word is 1 in the heap and 0 outside, the pause word is 1 while a pause is wanted or runs.
use Rattle.std.specs.Prelude.{ℕ, ◌==◌, Bool, true, false, if◌then◌else◌}
use Rattle.heap_words.specs.declared.place.Place.{Place}
use Rattle.heap_words.specs.declared.place.Place.TheVariants as place
use Rattle.heap_words.specs.declared.access.Took.{Took}
use Rattle.heap_words.specs.declared.access.Took.TheVariants.{More, Again, Done}
use Rattle.heap_words.specs.Words.{Pause, State}
use Rattle.heap_words.specs.Touch.{Touch, touch, loads, stores}
use Rattle.handshake.specs.declared.enter_spot.EnterSpot.{EnterSpot}
use Rattle.handshake.specs.declared.enter_spot.EnterSpot.TheVariants as enter

-- the place of the next access. There is none inside, where it is named as that of the last access
abbrev pub place_at : EnterSpot → Place
place_at enter.Raise = place.E1
place_at enter.Look = place.E2
place_at enter.Lower = place.E3
place_at enter.Await = place.E4
place_at enter.Inside = place.E2

-- the next access, of the machine of a seat
abbrev pub touch_at : ℕ → EnterSpot → Touch
touch_at seat enter.Raise = touch (State seat) (stores 1)
touch_at seat enter.Look = touch Pause loads
touch_at seat enter.Lower = touch (State seat) (stores 0)
touch_at seat enter.Await = touch Pause loads
touch_at seat enter.Inside = touch Pause loads

-- what follows, by the word that was found
abbrev pub next_at : EnterSpot → ℕ → EnterSpot
next_at enter.Raise got = enter.Look
next_at enter.Look got = if got == 0 then enter.Inside else enter.Lower
next_at enter.Lower got = enter.Await
next_at enter.Await got = if got == 0 then enter.Raise else enter.Await
next_at enter.Inside got = enter.Inside

-- what a step says that finds this word
abbrev pub says_at : EnterSpot → ℕ → Took
says_at enter.Raise got = More
says_at enter.Look got = if got == 0 then Done else More
says_at enter.Lower got = More
says_at enter.Await got = if got == 0 then More else Again
says_at enter.Inside got = Done

-- whether it is inside
abbrev pub is_ended : EnterSpot → Bool
is_ended enter.Inside = true
is_ended _ = false

-- the access by which the machine of a seat leaves
abbrev pub leave_touch : ℕ → Touch
leave_touch seat = touch (State seat) (stores 0)
