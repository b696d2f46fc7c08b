-- The rows of the steps by which a machine resolves an address of the collection set: for each spot its place, the access that
-- it makes and what follows. Whoever finds the object not forwarded asks to copy, copies it into room of its own, and publishes
-- its copy by one exchange on the old header. The loser of that race gives its room back to its buffer, and goes on with the copy of the
-- winner. Whoever finds no room stops all copying, and waits until nobody copies; then the header decides once more.
use Rattle.std.specs.Prelude.{ℕ, ◌+◌, ◌==◌, Bool, true, false, nat_lt, if◌then◌else◌}
use Rattle.heap_words.specs.declared.config.Config.{Config}
use Rattle.heap_words.specs.declared.place.Place.{Place}
use Rattle.heap_words.specs.declared.place.Place.TheVariants as place
use Rattle.heap_words.specs.declared.access.Took.{Took}
use Rattle.heap_words.specs.declared.access.Took.TheVariants.{More, Again, Done}
use Rattle.heap_words.specs.Encoding.{plain_header, header_word, is_forwarded, forwardee_in, object_words, buffer_word}
use Rattle.heap_words.specs.Words.{Evac, Current, Heap}
use Rattle.heap_words.specs.Phases.{updating_phase}
use Rattle.heap_words.specs.Touch.{Touch, touch, loads, stores, subtracts, exchanges}
use Rattle.alloc_buffers.specs.declared.spot.Kind.TheVariants.{Evacuated}
use Rattle.alloc_buffers.specs.declared.spot.Taken.TheVariants.{At, NoRoom}
use Rattle.alloc_buffers.specs.declared.spot.TakeSpot.{TakeSpot}
use Rattle.alloc_buffers.specs.declared.spot.TakeSpot.TheVariants as take
use Rattle.alloc_buffers.specs.Rows as takes
use Rattle.evac_room.specs.declared.spot.RoomSpot.{RoomSpot}
use Rattle.evac_room.specs.declared.spot.RoomSpot.TheVariants as room
use Rattle.evac_room.specs.Rows as rooms
use Rattle.load_barrier.specs.declared.copying.CopySpot.{CopySpot}
use Rattle.load_barrier.specs.declared.copying.CopySpot.TheVariants.{LoadWord, StoreWord, StoreHeader, Publish, GiveBack}
use Rattle.load_barrier.specs.declared.spot.ResolveSpot.{ResolveSpot}
use Rattle.load_barrier.specs.declared.spot.ResolveSpot.TheVariants.{LoadHeader, Entering, LoadShape, Taking, Copying, Leaving, Stopping, LoadAgain, Resolved}

-- the place of the next access of a machine that copies
abbrev pub copy_place : CopySpot → Place
copy_place (LoadWord words index) = place.CL
copy_place (StoreWord words index found) = place.CP
copy_place StoreHeader = place.HI
copy_place Publish = place.HX
copy_place (GiveBack answer) = place.GB

-- the place of the next access. There is none at the end, where it is named as that of the last load of the header
abbrev pub place_at : ResolveSpot → Place
place_at LoadHeader = place.HL
place_at (Entering spot) = rooms.place_at spot
place_at LoadShape = place.SL
place_at (Taking words spot) = takes.place_at spot
place_at (Copying copy end spot) = copy_place spot
place_at (Leaving answer) = place.XS
place_at (Stopping spot) = rooms.place_at spot
place_at LoadAgain = place.HR
place_at (Resolved answer) = place.HR

-- the next access of the machine of a seat that copies the object at an address into room that begins at another, of a buffer with an end
abbrev pub copy_touch : (seat address copy end : ℕ) → CopySpot → Touch
copy_touch seat address copy end (LoadWord words index) = touch (Heap (address + index)) loads
copy_touch seat address copy end (StoreWord words index found) = touch (Heap (copy + index)) (stores found)
copy_touch seat address copy end StoreHeader = touch (Heap copy) (stores plain_header)
copy_touch seat address copy end Publish = touch (Heap address) (exchanges plain_header (header_word copy))
copy_touch seat address copy end (GiveBack answer) = touch (Current seat) (stores (buffer_word copy end))

-- the next access of the machine of a seat that resolves the address
abbrev pub touch_at : Config → ℕ → ℕ → ResolveSpot → Touch
touch_at config seat address LoadHeader = touch (Heap address) loads
touch_at config seat address (Entering spot) = rooms.touch_at spot
touch_at config seat address LoadShape = touch (Heap (address + 1)) loads
touch_at config seat address (Taking words spot) = takes.touch_at seat words spot
touch_at config seat address (Copying copy end spot) = copy_touch seat address copy end spot
touch_at config seat address (Leaving answer) = touch Evac (subtracts 1)
touch_at config seat address (Stopping spot) = rooms.touch_at spot
touch_at config seat address LoadAgain = touch (Heap address) loads
touch_at config seat address (Resolved answer) = touch (Heap address) loads

-- what follows the first load of the header: a forwarded object is resolved, and one that is not is copied, but not while
-- references are updated
abbrev pub after_header : ℕ → ℕ → ℕ → ResolveSpot
after_header address phase got = if is_forwarded got then Resolved (forwardee_in got) else (if phase == updating_phase then Resolved address else Entering room.Look)

-- the current copy of an object by the header of a copy
abbrev pub current_copy : ℕ → ℕ → ℕ
current_copy address header = if is_forwarded header then forwardee_in header else address

-- where it stands that asks to copy: once it is inside it loads the object's shape, and where nobody copies any more the header
abbrev pub after_enter : RoomSpot → ResolveSpot
after_enter room.Inside = LoadShape
after_enter room.Stopped = LoadAgain
after_enter spot = Entering spot

-- where a taking of room for a copy stands next
abbrev pub take_next : Config → ℕ → TakeSpot → ℕ → TakeSpot
take_next config words spot got = takes.next_at config words Evacuated spot got

-- where it stands that takes room: with room it copies the words behind the header, and without it stops all copying
abbrev pub after_take : ℕ → TakeSpot → ResolveSpot
after_take words (take.Ended (At copy) end) = Copying copy end (LoadWord words 1)
after_take words (take.Ended NoRoom end) = Stopping room.Ask
after_take words spot = Taking words spot

-- where it stands once it has copied all words below an index: behind the last word comes the header of the copy
abbrev pub after_word : ℕ → ℕ → CopySpot
after_word words index = if nat_lt index words then LoadWord words index else StoreHeader

-- what follows the exchange on the old header: where it found the header of an object that has not moved, the copy is the
-- object's; if not, another machine's is, and the room is given back
abbrev pub after_publish : (copy end : ℕ) → ℕ → ResolveSpot
after_publish copy end got = if got == plain_header then Leaving copy else Copying copy end (GiveBack (forwardee_in got))

-- what follows a step of a machine that copies
abbrev pub after_copy : (copy end : ℕ) → CopySpot → ℕ → ResolveSpot
after_copy copy end (LoadWord words index) got = Copying copy end (StoreWord words index got)
after_copy copy end (StoreWord words index found) got = Copying copy end (after_word words (index + 1))
after_copy copy end StoreHeader got = Copying copy end Publish
after_copy copy end Publish got = after_publish copy end got
after_copy copy end (GiveBack answer) got = Leaving answer

-- where it stands that has found no room: once nobody copies it loads the header again
abbrev pub after_stop : RoomSpot → ResolveSpot
after_stop room.Stopped = LoadAgain
after_stop spot = Stopping spot

-- what follows, by the word that was found, in a phase
abbrev pub next_at : Config → ℕ → ℕ → ResolveSpot → ℕ → ResolveSpot
next_at config address phase LoadHeader got = after_header address phase got
next_at config address phase (Entering spot) got = after_enter (rooms.next_at spot got)
next_at config address phase LoadShape got = Taking (object_words got) take.LoadBuffer
next_at config address phase (Taking words spot) got = after_take words (take_next config words spot got)
next_at config address phase (Copying copy end spot) got = after_copy copy end spot got
next_at config address phase (Leaving answer) got = Resolved answer
next_at config address phase (Stopping spot) got = after_stop (rooms.next_at spot got)
next_at config address phase LoadAgain got = Resolved (current_copy address got)
next_at config address phase (Resolved answer) got = Resolved answer

-- whether the address is resolved
abbrev pub is_ended : ResolveSpot → Bool
is_ended (Resolved answer) = true
is_ended _ = false

-- what a step says by where it leads: it is done once the address is resolved
abbrev pub says_of : ResolveSpot → Took
says_of (Resolved answer) = Done
says_of _ = More

-- what a step of a part says: again where the part says so, and else by where it leads
abbrev pub says_by : Took → ResolveSpot → Took
says_by Again next_spot = Again
says_by _ next_spot = says_of next_spot

-- what the step says
abbrev pub says_at : Config → ℕ → ℕ → ResolveSpot → ℕ → Took
says_at config address phase (Entering spot) got = says_by (rooms.says_at spot got) (after_enter (rooms.next_at spot got))
says_at config address phase (Taking words spot) got = says_by (takes.says_at spot (take_next config words spot got)) (after_take words (take_next config words spot got))
says_at config address phase (Stopping spot) got = says_by (rooms.says_at spot got) (after_stop (rooms.next_at spot got))
says_at config address phase spot got = says_of (next_at config address phase spot got)
