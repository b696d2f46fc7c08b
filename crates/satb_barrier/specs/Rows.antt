-- The rows of the steps by which a mutator records an address: for each spot its place, the access that it makes and what
-- follows. A buffer has room for 8 entries. One that is full is emptied first: each entry is marked grey, and then the count
-- is 0.
use Rattle.std.specs.Prelude.{ℕ, ◌≤◌, ◌+◌, Bool, true, false, ◌&&◌, nat_lt, ⊤, if◌then◌else◌, Option, Some, None}
use Rattle.heap_words.specs.declared.config.Config.{Config}
use Rattle.heap_words.specs.declared.place.Place.{Place}
use Rattle.heap_words.specs.declared.place.Place.TheVariants as place
use Rattle.heap_words.specs.declared.access.Took.{Took}
use Rattle.heap_words.specs.declared.access.Took.TheVariants.{More, Done}
use Rattle.heap_words.specs.Words.{Count, Buffer, Heap, IsWord, is_word}
use Rattle.heap_words.specs.Touch.{Touch, touch, loads, stores}
use Rattle.regions.specs.Touches.{grey_touch}
use Rattle.satb_barrier.specs.declared.spot.RememberSpot.{RememberSpot}
use Rattle.satb_barrier.specs.declared.spot.RememberSpot.TheVariants.{LoadCount, LoadEntry, MarkEntry, ClearCount, StoreEntry, StoreCount, Recorded}

-- the place of the next access. There is none at the end, where it is named as that of the last access
abbrev pub place_at : RememberSpot → Place
place_at LoadCount = place.BC
place_at (LoadEntry entry) = place.BL
place_at (MarkEntry entry found) = place.GO
place_at ClearCount = place.BZ
place_at (StoreEntry entry) = place.BE
place_at (StoreCount entry) = place.BN
place_at Recorded = place.BN

-- the next access, of the mutator that records the address
abbrev pub touch_at : Config → ℕ → ℕ → RememberSpot → Touch
touch_at config mutator address LoadCount = touch (Count mutator) loads
touch_at config mutator address (LoadEntry entry) = touch (Buffer mutator entry) loads
touch_at config mutator address (MarkEntry entry found) = grey_touch config found
touch_at config mutator address ClearCount = touch (Count mutator) (stores 0)
touch_at config mutator address (StoreEntry entry) = touch (Buffer mutator entry) (stores address)
touch_at config mutator address (StoreCount entry) = touch (Count mutator) (stores (entry + 1))
touch_at config mutator address Recorded = touch (Count mutator) loads

-- what follows, by the word that was found
abbrev pub next_at : RememberSpot → ℕ → RememberSpot
next_at LoadCount got = if nat_lt got 8 then StoreEntry got else LoadEntry 0
next_at (LoadEntry entry) got = MarkEntry entry got
next_at (MarkEntry entry found) got = if nat_lt entry 7 then LoadEntry (entry + 1) else ClearCount
next_at ClearCount got = StoreEntry 0
next_at (StoreEntry entry) got = StoreCount entry
next_at (StoreCount entry) got = Recorded
next_at Recorded got = Recorded

-- whether the address is recorded
abbrev pub is_ended : RememberSpot → Bool
is_ended Recorded = true
is_ended _ = false

-- the address that the next access makes grey, if it does so
abbrev pub greys_at : RememberSpot → Option ℕ
greys_at (MarkEntry entry found) = Some found
greys_at _ = None

-- what the step says: it never waits, and ends with the count
abbrev pub says_at : RememberSpot → Took
says_at (StoreCount entry) = Done
says_at Recorded = Done
says_at _ = More

-- whether the numbers of a spot are in range: there is such an entry, and what was found in it is an address of the heap
abbrev pub is_ready : Config → RememberSpot → Bool
is_ready config (LoadEntry entry) = nat_lt entry 8
is_ready config (MarkEntry entry found) = nat_lt entry 8 && is_word config (Heap found)
is_ready config (StoreEntry entry) = nat_lt entry 8
is_ready config (StoreCount entry) = nat_lt entry 8
is_ready config _ = true

-- the word is fit: no count is above 8, and each entry is an address of the heap
abbrev pub IsFit : Config → RememberSpot → ℕ → Type 0
IsFit config LoadCount got = got ≤ 8
IsFit config (LoadEntry entry) got = IsWord config (Heap got)
IsFit config _ got = ⊤
