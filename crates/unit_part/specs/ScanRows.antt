-- The rows of the steps by which a machine claims a unit of marking and scans it: for each spot its place, the access that it
-- makes and what follows. A unit is one word of grey bits. Each of its addresses that is grey and not black is made black, and
-- then each of its references grey. All units are gone over once. What is made grey behind that is left to hints, and to the pause.
use Rattle.std.specs.Prelude.{ℕ, ◌+◌, ◌==◌, Bool, true, false, ◌&&◌, nat_lt, bit_and, if◌then◌else◌, Option, Some, None}
use Rattle.std.specs.Int.{bit_at, bit_not, w64}
use Rattle.heap_words.specs.declared.config.Config.{Config}
use Rattle.heap_words.specs.declared.place.Place.{Place}
use Rattle.heap_words.specs.declared.place.Place.TheVariants as place
use Rattle.heap_words.specs.declared.access.Took.{Took}
use Rattle.heap_words.specs.declared.access.Took.TheVariants.{More, Again, Done}
use Rattle.heap_words.specs.declared.access.Unit.TheVariants.{Worked, NoneLeft}
use Rattle.heap_words.specs.Encoding.{refs_in}
use Rattle.heap_words.specs.Words.{Claim, Grey, Black, Heap, is_word, bit_words}
use Rattle.heap_words.specs.Touch.{Touch, touch, loads, exchanges}
use Rattle.regions.specs.Marks.{mark_word, mark_bit, lowest_address}
use Rattle.regions.specs.Touches.{grey_touch, black_touch}
use Rattle.unit_part.specs.declared.scan_spot.ScanSpot.{ScanSpot}
use Rattle.unit_part.specs.declared.scan_spot.ScanSpot.TheVariants.{LoadClaim, ClaimUnit, LoadGrey, LoadBlack, SetBlack, LoadShape, LoadField, SetGrey, Ended}

-- the units of marking
abbrev pub unit_limit : Config → ℕ
unit_limit config = bit_words config

-- whether there is a unit of this number
abbrev pub has_unit : Config → ℕ → Bool
has_unit config unit = nat_lt unit (unit_limit config)

-- the bits that are grey and not black
abbrev pub unscanned_in : ℕ → ℕ → ℕ
unscanned_in grey black = bit_and grey (bit_not w64 black)

-- the place of the next access. There is none at the end, where it is named as that of the last access
abbrev pub place_at : ScanSpot → Place
place_at LoadClaim = place.MC
place_at (ClaimUnit unit) = place.KX
place_at (LoadGrey word) = place.MG
place_at (LoadBlack word grey) = place.MB
place_at (SetBlack address) = place.MO
place_at (LoadShape address) = place.MS
place_at (LoadField address field refs) = place.MF
place_at (SetGrey address field refs found) = place.GO
place_at (Ended Worked) = place.MB
place_at (Ended NoneLeft) = place.MC

-- the next access
abbrev pub touch_at : Config → ScanSpot → Touch
touch_at config LoadClaim = touch Claim loads
touch_at config (ClaimUnit unit) = touch Claim (exchanges unit (unit + 1))
touch_at config (LoadGrey word) = touch (Grey word) loads
touch_at config (LoadBlack word grey) = touch (Black word) loads
touch_at config (SetBlack address) = black_touch config address
touch_at config (LoadShape address) = touch (Heap (address + 1)) loads
touch_at config (LoadField address field refs) = touch (Heap (address + 3 + field)) loads
touch_at config (SetGrey address field refs found) = grey_touch config found
touch_at config (Ended unit) = touch Claim loads

-- what follows once a word's bits are loaded, by those that are grey and not black: the lowest of their addresses, if there is one
abbrev pub after_bits : Config → ℕ → ℕ → ScanSpot
after_bits config word unscanned = if unscanned == 0 then Ended Worked else SetBlack (lowest_address config word unscanned)

-- what follows once so many of an object's references are dealt with: the next one, or the word of its bit again
abbrev pub next_reference : Config → ℕ → ℕ → ℕ → ScanSpot
next_reference config address field refs = if nat_lt field refs then LoadField address field refs else LoadGrey (mark_word config address)

-- Where a machine stands that has claimed no unit and takes the hint of an address of the heap: as behind the claim of the word that
-- has the address's mark. A number that is no such address is no hint.
abbrev pub hinted : Config → ℕ → ScanSpot
hinted config address = if is_word config (Heap address) then LoadGrey (mark_word config address) else LoadClaim

-- what follows, by the word that was found
abbrev pub next_at : Config → ScanSpot → ℕ → ScanSpot
next_at config LoadClaim got = if has_unit config got then ClaimUnit got else Ended NoneLeft
next_at config (ClaimUnit unit) got = if got == unit then LoadGrey unit else LoadClaim
next_at config (LoadGrey word) got = LoadBlack word got
next_at config (LoadBlack word grey) got = after_bits config word (unscanned_in grey got)
next_at config (SetBlack address) got = if bit_at got (mark_bit config address) == 1 then LoadGrey (mark_word config address) else LoadShape address
next_at config (LoadShape address) got = next_reference config address 0 (refs_in got)
next_at config (LoadField address field refs) got = if got == 0 then next_reference config address (field + 1) refs else SetGrey address field refs got
next_at config (SetGrey address field refs found) got = next_reference config address (field + 1) refs
next_at config (Ended unit) got = Ended unit

-- whether the unit is done, or none was left
abbrev pub is_ended : ScanSpot → Bool
is_ended (Ended unit) = true
is_ended _ = false

-- what the step says: again where another machine has claimed the unit, and done at the end
abbrev pub says_at : Config → ScanSpot → ℕ → Took
says_at config LoadClaim got = if has_unit config got then More else Done
says_at config (ClaimUnit unit) got = if got == unit then More else Again
says_at config (LoadBlack word grey) got = if unscanned_in grey got == 0 then Done else More
says_at config (Ended unit) got = Done
says_at config _ got = More

-- whether a unit is claimed, or a hint taken: from there on it is done, and never was none left
abbrev pub has_claimed : ScanSpot → Bool
has_claimed LoadClaim = false
has_claimed (ClaimUnit unit) = false
has_claimed (Ended NoneLeft) = false
has_claimed _ = true

-- the address that the next access makes grey, if it does so
abbrev pub greys_at : ScanSpot → Option ℕ
greys_at (SetGrey address field refs found) = Some found
greys_at _ = None

-- whether an object with so many references lies in the heap, up to its last reference
abbrev pub has_fields : Config → ℕ → ℕ → Bool
has_fields config address refs = is_word config (Heap address) && is_word config (Heap (address + 2 + refs))

-- whether the numbers of a spot are in range: the next access can be made
abbrev pub is_ready : Config → ScanSpot → Bool
is_ready config LoadClaim = true
is_ready config (ClaimUnit unit) = has_unit config unit
is_ready config (LoadGrey word) = is_word config (Grey word)
is_ready config (LoadBlack word grey) = is_word config (Grey word)
is_ready config (SetBlack address) = is_word config (Heap address)
is_ready config (LoadShape address) = is_word config (Heap address) && is_word config (Heap (address + 1))
is_ready config (LoadField address field refs) = has_fields config address refs && nat_lt field refs
is_ready config (SetGrey address field refs found) = has_fields config address refs && (nat_lt field refs && is_word config (Heap found))
is_ready config (Ended unit) = true
