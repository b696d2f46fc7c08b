-- The rows of the steps by which a machine claims a unit of updating and updates it: for each spot its place, the access that it
-- makes and what follows. A unit is one region; words in it that only fill are stepped over. In each of its objects that is kept and lies below the region's limit, each
-- reference into the collection set whose object has been copied is exchanged for one to the copy. A region of the set is passed over.
use Rattle.std.specs.Prelude.{ℕ, ◌+◌, ◌==◌, Option, Some, None, Bool, true, false, ◌&&◌, nat_lt, nat_le, if◌then◌else◌}
use Rattle.std.specs.Int.{bit_at}
use Rattle.heap_words.specs.declared.config.Config.{Config}
use Rattle.heap_words.specs.declared.place.Place.{Place}
use Rattle.heap_words.specs.declared.place.Place.TheVariants as place
use Rattle.heap_words.specs.declared.access.Took.{Took}
use Rattle.heap_words.specs.declared.access.Took.TheVariants.{More, Again, Done}
use Rattle.heap_words.specs.declared.access.Unit.TheVariants.{Worked, NoneLeft}
use Rattle.heap_words.specs.Encoding.{filler_words_in, refs_in, object_words, is_forwarded, forwardee_in}
use Rattle.heap_words.specs.Words.{Claim, Limit, Tams, Black, Heap, is_word}
use Rattle.heap_words.specs.Touch.{Touch, touch, loads, exchanges}
use Rattle.regions.specs.Marks.{mark_word, mark_bit}
use Rattle.regions.specs.Place.{base_of, region_with}
use Rattle.unit_part.specs.declared.update_spot.Walk.{Walk}
use Rattle.unit_part.specs.declared.update_spot.Visit.{Visit}
use Rattle.unit_part.specs.declared.update_spot.UpdateSpot.{UpdateSpot}
use Rattle.unit_part.specs.declared.update_spot.UpdateSpot.TheVariants.{LoadClaim, ClaimUnit, LoadLimit, LoadTams, LoadFirst, LoadShape, LoadBlack, LoadField, LoadHeader, ExchangeField, Ended}

-- whether there is a unit of this number
abbrev pub has_unit : Config → ℕ → Bool
has_unit config unit = nat_lt unit config.regions

-- whether a word is an address of a region in the collection set
abbrev pub names_set : Config → ℕ → ℕ → Bool
names_set config cset word = is_word config (Heap word) && (bit_at cset (region_with config word) == 1)

-- the address of the region's limit: objects from there on were made after updating began
abbrev pub limit_of : Config → Walk → ℕ
limit_of config walk = base_of config walk.region + walk.limit

-- the address up to which an object is kept where it is marked; from there on each object is kept
abbrev pub tams_of : Config → Walk → ℕ
tams_of config walk = base_of config walk.region + walk.tams

-- the address behind an object
abbrev pub visit_end : Visit → ℕ
visit_end visit = visit.address + object_words visit.shape

-- the place of the next access. There is none at the end, where it is named as that of one that ends so
abbrev pub place_at : UpdateSpot → Place
place_at LoadClaim = place.UC
place_at (ClaimUnit unit) = place.KX
place_at (LoadLimit region) = place.UL
place_at (LoadTams region limit) = place.UT
place_at (LoadFirst walk address) = place.UG
place_at (LoadShape walk address) = place.US
place_at (LoadBlack visit) = place.UB
place_at (LoadField visit field) = place.UF
place_at (LoadHeader visit field found) = place.UH
place_at (ExchangeField visit field found copy) = place.UX
place_at (Ended Worked) = place.UF
place_at (Ended NoneLeft) = place.UC

-- the next access
abbrev pub touch_at : Config → UpdateSpot → Touch
touch_at config LoadClaim = touch Claim loads
touch_at config (ClaimUnit unit) = touch Claim (exchanges unit (unit + 1))
touch_at config (LoadLimit region) = touch (Limit region) loads
touch_at config (LoadTams region limit) = touch (Tams region) loads
touch_at config (LoadFirst walk address) = touch (Heap address) loads
touch_at config (LoadShape walk address) = touch (Heap (address + 1)) loads
touch_at config (LoadBlack visit) = touch (Black (mark_word config visit.address)) loads
touch_at config (LoadField visit field) = touch (Heap (visit.address + 3 + field)) loads
touch_at config (LoadHeader visit field found) = touch (Heap found) loads
touch_at config (ExchangeField visit field found copy) = touch (Heap (visit.address + 3 + field)) (exchanges found copy)
touch_at config (Ended unit) = touch Claim loads

-- what follows once all objects below an address are dealt with: the header there, an object's or a filler's, if the limit is not reached
abbrev pub next_object : Config → Walk → ℕ → UpdateSpot
next_object config walk address = if nat_lt address (limit_of config walk) then LoadFirst walk address else Ended Worked

-- what follows the load of a header by the words that only fill there: the walk steps over them, and looks at an object
abbrev pub after_words : Config → Walk → ℕ → Option ℕ → UpdateSpot
after_words config walk address (Some words) = next_object config walk (address + words)
after_words config walk address None = LoadShape walk address

abbrev pub after_first : Config → Walk → ℕ → ℕ → UpdateSpot
after_first config walk address got = after_words config walk address (filler_words_in got)

-- what follows once so many of an object's references are dealt with: the next one, or the next object
abbrev pub next_field : Config → Visit → ℕ → UpdateSpot
next_field config visit field = if nat_lt field (refs_in visit.shape) then LoadField visit field else next_object config visit.walk (visit_end visit)

-- what follows once an object's shape is loaded: its mark counts below tams alone, and nothing does where it has no reference
abbrev pub after_shape : Config → Visit → UpdateSpot
after_shape config visit =
    if refs_in visit.shape == 0 then next_object config visit.walk (visit_end visit)
    else (if nat_lt visit.address (tams_of config visit.walk) then LoadBlack visit else LoadField visit 0)

-- what follows, by the collection set and the word that was found
abbrev pub next_at : Config → ℕ → UpdateSpot → ℕ → UpdateSpot
next_at config cset LoadClaim got = if has_unit config got then ClaimUnit got else Ended NoneLeft
next_at config cset (ClaimUnit unit) got = if got == unit then (if bit_at cset unit == 1 then Ended Worked else LoadLimit unit) else LoadClaim
next_at config cset (LoadLimit region) got = if got == 0 then Ended Worked else LoadTams region got
next_at config cset (LoadTams region limit) got = LoadFirst (record { region = region; limit = limit; tams = got }) (base_of config region)
next_at config cset (LoadFirst walk address) got = after_first config walk address got
next_at config cset (LoadShape walk address) got = after_shape config (record { walk = walk; address = address; shape = got })
next_at config cset (LoadBlack visit) got = if bit_at got (mark_bit config visit.address) == 1 then LoadField visit 0 else next_object config visit.walk (visit_end visit)
next_at config cset (LoadField visit field) got = if names_set config cset got then LoadHeader visit field got else next_field config visit (field + 1)
next_at config cset (LoadHeader visit field found) got = if is_forwarded got then ExchangeField visit field found (forwardee_in got) else next_field config visit (field + 1)
next_at config cset (ExchangeField visit field found copy) got = next_field config visit (field + 1)
next_at config cset (Ended unit) got = Ended unit

-- whether the unit is done, or none was left
abbrev pub is_ended : UpdateSpot → Bool
is_ended (Ended unit) = true
is_ended _ = false

-- what a step says that comes to a spot and waits for nobody
abbrev pub says_of : UpdateSpot → Took
says_of spot = if is_ended spot then Done else More

-- what the step says: again where another machine has claimed the unit, and done at the end
abbrev pub says_at : Config → ℕ → UpdateSpot → ℕ → Took
says_at config cset (ClaimUnit unit) got = if got == unit then says_of (next_at config cset (ClaimUnit unit) got) else Again
says_at config cset spot got = says_of (next_at config cset spot got)

-- whether a region's numbers are in range: there is such a region, and neither its limit nor its tams is past its end
abbrev pub walk_fits : Config → Walk → Bool
walk_fits config walk = nat_lt walk.region config.regions && (nat_le walk.limit config.region_words && nat_le walk.tams config.region_words)

-- whether an object's are: it lies in the heap, up to its last reference
abbrev pub visit_fits : Config → Visit → Bool
visit_fits config visit = walk_fits config visit.walk && (is_word config (Heap visit.address) && is_word config (Heap (visit.address + 2 + refs_in visit.shape)))

-- whether it has a reference of this number
abbrev pub has_field : Config → Visit → ℕ → Bool
has_field config visit field = visit_fits config visit && nat_lt field (refs_in visit.shape)

-- whether the numbers of a spot are in range: the next access can be made
abbrev pub is_ready : Config → UpdateSpot → Bool
is_ready config LoadClaim = true
is_ready config (ClaimUnit unit) = has_unit config unit
is_ready config (LoadLimit region) = nat_lt region config.regions
is_ready config (LoadTams region limit) = nat_lt region config.regions && nat_le limit config.region_words
is_ready config (LoadFirst walk address) = walk_fits config walk && is_word config (Heap address)
is_ready config (LoadShape walk address) = walk_fits config walk && (is_word config (Heap address) && is_word config (Heap (address + 1)))
is_ready config (LoadBlack visit) = visit_fits config visit
is_ready config (LoadField visit field) = has_field config visit field
is_ready config (LoadHeader visit field found) = has_field config visit field && is_word config (Heap found)
is_ready config (ExchangeField visit field found copy) = has_field config visit field
is_ready config (Ended unit) = true
