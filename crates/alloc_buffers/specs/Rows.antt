-- The rows of the steps by which a machine takes room: for each spot its place, the access that it makes and what follows.
use Rattle.std.specs.Prelude.{ℕ, ◌+◌, ◌-◌, ◌*◌, ◌%◌, ◌^◌, ◌==◌, Bool, true, false, ◌&&◌, nat_lt, nat_le, if◌then◌else◌}
use Rattle.std.specs.Int.{bit_at}
use Rattle.heap_words.specs.declared.config.Config.{Config}
use Rattle.heap_words.specs.declared.place.Place.{Place}
use Rattle.heap_words.specs.declared.place.Place.TheVariants as place
use Rattle.heap_words.specs.declared.access.Took.{Took}
use Rattle.heap_words.specs.declared.access.Took.TheVariants.{More, Again, Done}
use Rattle.heap_words.specs.Encoding.{filler_header, buffer_word, next_in, end_in}
use Rattle.heap_words.specs.Words.{Free, Top, Current, Heap, Share}
use Rattle.heap_words.specs.Touch.{Touch, touch, loads, stores, keeps_bits, sets_bits, exchanges}
use Rattle.heap_words.specs.Fits.{touch_fits}
use Rattle.regions.specs.Place.{base_of}
use Rattle.regions.specs.Sets.{members_below, lowest_in, all_but}
use Rattle.alloc_buffers.specs.declared.spot.Kind.{Kind}
use Rattle.alloc_buffers.specs.declared.spot.Kind.TheVariants.{Fresh, Evacuated}
use Rattle.alloc_buffers.specs.declared.spot.Taken.TheVariants.{At, NoRoom}
use Rattle.alloc_buffers.specs.declared.spot.TakeSpot.{TakeSpot}
use Rattle.alloc_buffers.specs.declared.spot.TakeSpot.TheVariants.{LoadBuffer, LoadShared, LoadTop, Carve, LoadFree, TakeRegion, ShareRegion, GiveBack, Fill, StoreBuffer, Ended}

-- the place of the next access. There is none at the end, where it is named as that of the last access of a taking
abbrev pub place_at : TakeSpot → Place
place_at LoadBuffer = place.TC
place_at (LoadShared buffer) = place.TR
place_at (LoadTop buffer region) = place.TT
place_at (Carve buffer region top room) = place.TX
place_at (LoadFree buffer shared) = place.TF
place_at (TakeRegion buffer shared region) = place.TG
place_at (ShareRegion buffer shared region) = place.TV
place_at (GiveBack buffer region) = place.TQ
place_at (Fill buffer address room) = place.TZ
place_at (StoreBuffer address room) = place.TS
place_at (Ended taken end) = place.TS

-- the set of one region alone
abbrev pub only : ℕ → ℕ
only region = 1 * 2 ^ region % 2 ^ 64

-- the free words of a buffer
abbrev pub free_words : ℕ → ℕ
free_words buffer = end_in buffer - next_in buffer

-- the next access, of the machine of a seat that wants so many words
abbrev pub touch_at : ℕ → ℕ → TakeSpot → Touch
touch_at seat words LoadBuffer = touch (Current seat) loads
touch_at seat words (LoadShared buffer) = touch Share loads
touch_at seat words (LoadTop buffer region) = touch (Top region) loads
touch_at seat words (Carve buffer region top room) = touch (Top region) (exchanges top (top + room))
touch_at seat words (LoadFree buffer shared) = touch Free loads
touch_at seat words (TakeRegion buffer shared region) = touch Free (keeps_bits (all_but region))
touch_at seat words (ShareRegion buffer shared region) = touch Share (exchanges shared (region + 1))
touch_at seat words (GiveBack buffer region) = touch Free (sets_bits (only region))
touch_at seat words (Fill buffer address room) = touch (Heap (next_in buffer)) (stores (filler_header (free_words buffer)))
touch_at seat words (StoreBuffer address room) = touch (Current seat) (stores (buffer_word (address + words) (address + room)))
touch_at seat words (Ended taken end) = touch Free loads

-- whether a buffer has so many free words
abbrev pub has_free : ℕ → ℕ → Bool
has_free words buffer = nat_le (next_in buffer + words) (end_in buffer)

-- whether a region has room for so many words above a top
abbrev pub has_room : Config → ℕ → ℕ → Bool
has_room config words top = nat_le (top + words) config.region_words

-- how many words are carved above a top: 64, or what is left
abbrev pub carved_words : Config → ℕ → ℕ
carved_words config top = if has_room config 64 top then 64 else config.region_words - top

-- how many free regions are kept back: a new object leaves the reserve to copies
abbrev pub kept_back : Config → Kind → ℕ
kept_back config Fresh = config.reserve
kept_back config Evacuated = 0

-- whether no free region may be taken
abbrev pub has_none : Config → Kind → ℕ → Bool
has_none config kind free_regions = nat_le (members_below free_regions 64) (kept_back config kind)

-- what follows the load of the buffer: it has room, or the machine looks at the shared region
abbrev pub after_buffer : ℕ → ℕ → TakeSpot
after_buffer words got = if has_free words got then StoreBuffer (next_in got) (free_words got) else LoadShared got

-- what follows the load of the shared region, if there is one
abbrev pub after_shared : ℕ → ℕ → TakeSpot
after_shared buffer got = if got == 0 then LoadFree buffer 0 else LoadTop buffer (got - 1)

-- what follows the load of its top: there is room to carve, or the machine looks for a free region
abbrev pub after_top : Config → ℕ → ℕ → ℕ → ℕ → TakeSpot
after_top config words buffer region got = if has_room config words got then Carve buffer region got (carved_words config got) else LoadFree buffer (region + 1)

-- what follows once a buffer is carved: what is left of the old one is filled, if anything is
abbrev pub carved_at : ℕ → ℕ → ℕ → TakeSpot
carved_at buffer address room = if nat_lt (next_in buffer) (end_in buffer) then Fill buffer address room else StoreBuffer address room

-- what follows the load of the free word
abbrev pub after_free : Config → Kind → ℕ → ℕ → ℕ → TakeSpot
after_free config kind buffer shared got = if has_none config kind got then Ended NoRoom 0 else TakeRegion buffer shared (lowest_in got)

-- what follows, by the word that was found
abbrev pub next_at : Config → ℕ → Kind → TakeSpot → ℕ → TakeSpot
next_at config words kind LoadBuffer got = after_buffer words got
next_at config words kind (LoadShared buffer) got = after_shared buffer got
next_at config words kind (LoadTop buffer region) got = after_top config words buffer region got
next_at config words kind (Carve buffer region top room) got = if got == top then carved_at buffer (base_of config region + top) room else LoadShared buffer
next_at config words kind (LoadFree buffer shared) got = after_free config kind buffer shared got
next_at config words kind (TakeRegion buffer shared region) got = if bit_at got region == 1 then ShareRegion buffer shared region else LoadFree buffer shared
next_at config words kind (ShareRegion buffer shared region) got = if got == shared then LoadTop buffer region else GiveBack buffer region
next_at config words kind (GiveBack buffer region) got = LoadShared buffer
next_at config words kind (Fill buffer address room) got = StoreBuffer address room
next_at config words kind (StoreBuffer address room) got = Ended (At address) (address + room)
next_at config words kind (Ended taken end) got = Ended taken end

-- what a step that leads from one spot to another says: another machine was faster, the taking has ended, or neither
abbrev pub says_at : TakeSpot → TakeSpot → Took
says_at (Carve buffer region top room) (LoadShared same_buffer) = Again
says_at (TakeRegion buffer shared region) (LoadFree same_buffer same_shared) = Again
says_at (ShareRegion buffer shared region) (GiveBack same_buffer same_region) = Again
says_at spot (Ended taken end) = Done
says_at spot next_spot = More

-- whether the machine has its answer
abbrev pub is_ended : TakeSpot → Bool
is_ended (Ended taken end) = true
is_ended _ = false

-- whether the words wanted are free behind an address, and addresses are small
abbrev pub holds_words : ℕ → ℕ → ℕ → Bool
holds_words words address room = nat_le words room && nat_lt (address + room) (2 ^ 32)

-- whether the numbers of a spot are in range: a region is one of the heap, the words above a top lie in it, and a word of a shared region
-- names one of the heap, or none
abbrev pub numbers_fit : Config → ℕ → TakeSpot → Bool
numbers_fit config words (Carve buffer region top room) = nat_le (top + room) config.region_words && nat_le words room
numbers_fit config words (LoadFree buffer shared) = nat_le shared config.regions
numbers_fit config words (TakeRegion buffer shared region) = nat_lt region config.regions && nat_le shared config.regions
numbers_fit config words (ShareRegion buffer shared region) = nat_lt region config.regions && nat_le shared config.regions
numbers_fit config words (GiveBack buffer region) = nat_lt region config.regions
numbers_fit config words (Fill buffer address room) = (nat_lt (next_in buffer) (end_in buffer) && nat_lt (end_in buffer) (2 ^ 32)) && holds_words words address room
numbers_fit config words (StoreBuffer address room) = holds_words words address room
numbers_fit config words _ = true

-- whether the next access can be made
abbrev pub is_ready : Config → ℕ → ℕ → TakeSpot → Bool
is_ready config seat words spot = touch_fits config (touch_at seat words spot) && numbers_fit config words spot
