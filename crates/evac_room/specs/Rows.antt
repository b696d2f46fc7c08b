-- The rows of the steps of a copier: for each spot its place, the access that it makes and what follows.
use Rattle.std.specs.Prelude.{ℕ, ◌≤◌, ◌+◌, ◌==◌, ⊤, if◌then◌else◌}
use Rattle.heap_words.specs.declared.access.Took.{Took}
use Rattle.heap_words.specs.declared.access.Took.TheVariants.{More, Again, Done}
use Rattle.heap_words.specs.declared.place.Place.{Place}
use Rattle.heap_words.specs.declared.place.Place.TheVariants as place
use Rattle.heap_words.specs.Words.{Evac}
use Rattle.heap_words.specs.Touch.{Touch, Form, loads, subtracts, exchanges, touch}
use Rattle.heap_words.specs.Counter.{count_of, is_out_of_room, marked}
use Rattle.evac_room.specs.declared.spot.RoomSpot.{RoomSpot}
use Rattle.evac_room.specs.declared.spot.RoomSpot.TheVariants.{Outside, Look, Raise, Inside, Lower, Ask, Mark, Wait, Stopped}

-- the place of the next access; a copier at rest makes none, and the place is that of a call which it may begin
abbrev pub place_at : RoomSpot → Place
place_at Outside = place.XL
place_at Look = place.XL
place_at (Raise found) = place.XC
place_at Inside = place.XS
place_at Lower = place.XS
place_at Ask = place.OL
place_at (Mark found) = place.OX
place_at Wait = place.XW
place_at Stopped = place.XL

-- what the access does to the counter
abbrev pub form_at : RoomSpot → Form
form_at (Raise found) = exchanges found (found + 1)
form_at Lower = subtracts 1
form_at (Mark found) = exchanges found (marked found)
form_at _ = loads

-- the next access, of the word that counts the copiers
abbrev pub touch_at : RoomSpot → Touch
touch_at spot = touch Evac (form_at spot)

-- where the copier stands after the access, by the word that it found; at rest it stays
abbrev pub next_at : RoomSpot → ℕ → RoomSpot
next_at Look got = if is_out_of_room got then (if count_of got == 0 then Stopped else Look) else Raise got
next_at (Raise found) got = if got == found then Inside else Look
next_at Lower got = Outside
next_at Ask got = Mark got
next_at (Mark found) got = if got == found then Wait else Ask
next_at Wait got = if count_of got == 0 then Stopped else Wait
next_at spot got = spot

-- what the step says
abbrev pub says_at : RoomSpot → ℕ → Took
says_at Look got = if is_out_of_room got then (if count_of got == 0 then Done else Again) else More
says_at (Raise found) got = if got == found then Done else Again
says_at (Mark found) got = if got == found then More else Again
says_at Wait got = if count_of got == 0 then Done else Again
says_at Ask got = More
says_at _ got = Done

-- the word is fit: no number that the row computes is below 0 or above a word
abbrev pub IsFit : RoomSpot → ℕ → Type 0
IsFit Lower got = 1 ≤ got
IsFit _ got = ⊤
