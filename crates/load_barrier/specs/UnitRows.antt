-- The rows of the steps by which a machine claims a unit of evacuation, a region, and copies what is marked there: for each spot
-- its place, the access that it makes and what follows. It walks a region of the collection set from object to object, over
-- words that only fill, and resolves each object that is marked. It ends at the top, or where an object could not be copied, since there was no room.
use Rattle.std.specs.Prelude.{ℕ, ◌+◌, ◌==◌, Option, Some, None, Bool, true, false, nat_lt, if◌then◌else◌}
use Rattle.std.specs.Int.{bit_at}
use Rattle.heap_words.specs.declared.config.Config.{Config}
use Rattle.heap_words.specs.declared.place.Place.{Place}
use Rattle.heap_words.specs.declared.place.Place.TheVariants as place
use Rattle.heap_words.specs.declared.access.Took.{Took}
use Rattle.heap_words.specs.declared.access.Took.TheVariants.{More, Again, Done}
use Rattle.heap_words.specs.declared.access.Unit.TheVariants.{Worked, NoneLeft}
use Rattle.heap_words.specs.Encoding.{filler_words_in, object_words}
use Rattle.heap_words.specs.Words.{Claim, Top, Black, Heap}
use Rattle.heap_words.specs.Phases.{evacuation_phase}
use Rattle.heap_words.specs.Touch.{Touch, touch, loads, exchanges}
use Rattle.regions.specs.Place.{region_with, base_of}
use Rattle.regions.specs.Marks.{mark_word, mark_bit}
use Rattle.load_barrier.specs.declared.spot.ResolveSpot.{ResolveSpot}
use Rattle.load_barrier.specs.declared.spot.ResolveSpot.TheVariants.{LoadHeader, Resolved}
use Rattle.load_barrier.specs.Rows as resolves
use Rattle.load_barrier.specs.declared.evac_spot.EvacSpot.{EvacSpot}
use Rattle.load_barrier.specs.declared.evac_spot.EvacSpot.TheVariants.{LoadClaim, ClaimUnit, LoadTop, LoadFirst, LoadShape, LoadMark, Resolving, Ended}

-- whether a set has a region
abbrev pub is_in_set : ℕ → ℕ → Bool
is_in_set cset region = bit_at cset region == 1

-- whether an address lies in a region of a set
abbrev pub lies_in_set : Config → ℕ → ℕ → Bool
lies_in_set config cset address = is_in_set cset (region_with config address)

-- Whether a value that was loaded has to be resolved: not null, and not where objects do not move, nor outside the collection set.
abbrev pub must_resolve : Config → ℕ → ℕ → ℕ → Bool
must_resolve config phase cset value = if value == 0 then false else (if nat_lt phase evacuation_phase then false else lies_in_set config cset value)

-- the place of the next access. There is none at the end, where it is named as that of the claim
abbrev pub place_at : EvacSpot → Place
place_at LoadClaim = place.EC
place_at (ClaimUnit unit) = place.KX
place_at (LoadTop region) = place.ET
place_at (LoadFirst address end) = place.EF
place_at (LoadShape address end) = place.ES
place_at (LoadMark address end next) = place.EB
place_at (Resolving address end next spot) = resolves.place_at spot
place_at (Ended unit) = place.EC

-- the next access, of the machine of a seat
abbrev pub touch_at : Config → ℕ → EvacSpot → Touch
touch_at config seat LoadClaim = touch Claim loads
touch_at config seat (ClaimUnit unit) = touch Claim (exchanges unit (unit + 1))
touch_at config seat (LoadTop region) = touch (Top region) loads
touch_at config seat (LoadFirst address end) = touch (Heap address) loads
touch_at config seat (LoadShape address end) = touch (Heap (address + 1)) loads
touch_at config seat (LoadMark address end next) = touch (Black (mark_word config address)) loads
touch_at config seat (Resolving address end next spot) = resolves.touch_at config seat address spot
touch_at config seat (Ended unit) = touch Claim loads

-- what follows once a unit is claimed: a region of the set is walked, and in any other there is nothing to do
abbrev pub after_claim : ℕ → ℕ → EvacSpot
after_claim cset unit = if is_in_set cset unit then LoadTop unit else Ended Worked

-- where the walk goes on: at the next header below the end, an object's or a filler's, if there is one
abbrev pub walk_on : ℕ → ℕ → EvacSpot
walk_on next end = if nat_lt next end then LoadFirst next end else Ended Worked

-- what follows the load of a header by the words that only fill there: the walk steps over them, and looks at an object
abbrev pub after_words : ℕ → ℕ → Option ℕ → EvacSpot
after_words address end (Some words) = walk_on (address + words) end
after_words address end None = LoadShape address end

abbrev pub after_first : ℕ → ℕ → ℕ → EvacSpot
after_first address end got = after_words address end (filler_words_in got)

-- what follows the load of an object's mark: one that is marked is resolved
abbrev pub after_mark : Config → ℕ → ℕ → ℕ → ℕ → EvacSpot
after_mark config address end next got = if bit_at got (mark_bit config address) == 1 then Resolving address end next LoadHeader else walk_on next end

-- where it stands that resolves an object: with the answer outside the set the walk goes on, and with one in the set it ends
abbrev pub after_resolve : Config → ℕ → ℕ → ℕ → ℕ → ResolveSpot → EvacSpot
after_resolve config cset address end next (Resolved answer) = if lies_in_set config cset answer then Ended Worked else walk_on next end
after_resolve config cset address end next spot = Resolving address end next spot

-- what follows, by the word that was found
abbrev pub next_at : Config → ℕ → EvacSpot → ℕ → EvacSpot
next_at config cset LoadClaim got = if nat_lt got config.regions then ClaimUnit got else Ended NoneLeft
next_at config cset (ClaimUnit unit) got = if got == unit then after_claim cset unit else LoadClaim
next_at config cset (LoadTop region) got = walk_on (base_of config region) (base_of config region + got)
next_at config cset (LoadFirst address end) got = after_first address end got
next_at config cset (LoadShape address end) got = LoadMark address end (address + object_words got)
next_at config cset (LoadMark address end next) got = after_mark config address end next got
next_at config cset (Resolving address end next spot) got = after_resolve config cset address end next (resolves.next_at config address evacuation_phase spot got)
next_at config cset (Ended unit) got = Ended unit

-- whether the unit is done, or none was left
abbrev pub is_ended : EvacSpot → Bool
is_ended (Ended unit) = true
is_ended _ = false

-- what a step says by where it leads: it is done once the unit is, or none was left
abbrev pub says_of : EvacSpot → Took
says_of (Ended unit) = Done
says_of _ = More

-- what a step of a resolving says: again where the resolving says so, and else by where it leads
abbrev pub says_by : Took → EvacSpot → Took
says_by Again next_spot = Again
says_by _ next_spot = says_of next_spot

-- what the step says: again where another machine has claimed the unit, or the resolving waits
abbrev pub says_at : Config → ℕ → EvacSpot → ℕ → Took
says_at config cset (ClaimUnit unit) got = if got == unit then says_of (after_claim cset unit) else Again
says_at config cset (Resolving address end next spot) got =
    says_by (resolves.says_at config address evacuation_phase spot got) (after_resolve config cset address end next (resolves.next_at config address evacuation_phase spot got))
says_at config cset spot got = says_of (next_at config cset spot got)
