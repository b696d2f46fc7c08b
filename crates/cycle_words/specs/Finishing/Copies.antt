-- What copying all that is left of the collection set makes of the words of an image: one object after the other, by their
-- addresses, until one finds no room.
use Rattle.std.specs.Prelude.{ℕ, ◌≡◌, ◌+◌, ◌*◌, ◌==◌, ◌&&◌, not, if◌then◌else◌, Bool, true, false, Option, Some, None, zero, suc, ⊤}
use Rattle.heap_words.specs.declared.config.Config.{Config}
use Rattle.heap_words.specs.Words.{Word, Phase, Heap}
use Rattle.heap_words.specs.Encoding.{is_forwarded}
use Rattle.heap_words.specs.Phases.{evacuation_phase}
use Rattle.regions.specs.Place.{region_with}
use Rattle.image_graph.specs.Pinned.{is_pinned}
use Rattle.cycle_words.specs.Marking.Marks.{is_black}
use Rattle.cycle_words.specs.Evacuation.Copied.{CanCopyOut, copy_room, copied_out}
use Rattle.cycle_words.specs.Evacuation.Begun.{is_collected}

-- an address is that of an object that is left in the collection set: it is marked, and has not moved. Those of pinned regions stay
abbrev pub is_left : Config → (Word → ℕ) → ℕ → Bool
is_left config memory address = is_collected config memory address && not (is_pinned config memory (region_with config address)) && is_black config memory address && not (is_forwarded (memory (Heap address)))

-- some region was found
abbrev pub is_found : Option ℕ → Bool
is_found None = false
is_found (Some region) = true

-- some region outside the collection set has room for an object
abbrev pub has_copy_room : Config → (Word → ℕ) → ℕ → Bool
has_copy_room config memory address = is_found (copy_room config memory address)

-- the words after what is left at so many addresses, from one on, was copied out, up to the first object without room
unfoldable pub copied_from : Config → (Word → ℕ) → (address addresses : ℕ) → Word → ℕ
copied_from config memory from zero word = memory word
copied_from config memory from (suc addresses) word = if is_left config memory from then
    (if has_copy_room config memory from then copied_from config (copied_out config memory from) (from + 1) addresses word else memory word)
    else copied_from config memory (from + 1) addresses word

-- whether each of them finds room
unfoldable pub is_room_from : Config → (Word → ℕ) → (address addresses : ℕ) → Bool
is_room_from config memory from zero = true
is_room_from config memory from (suc addresses) =
    if is_left config memory from then has_copy_room config memory from && is_room_from config (copied_out config memory from) (from + 1) addresses else is_room_from config memory (from + 1) addresses

-- each of them can be copied out when its turn comes
unfoldable pub CanCopyFrom : Config → (Word → ℕ) → (address addresses : ℕ) → Type 0
CanCopyFrom config memory from zero = ⊤
CanCopyFrom config memory from (suc addresses) =
    (is_left config memory from ≡ true → CanCopyOut config memory from × (has_copy_room config memory from ≡ true → CanCopyFrom config (copied_out config memory from) (from + 1) addresses))
    × (is_left config memory from ≡ false → CanCopyFrom config memory (from + 1) addresses)

-- The words after all that is left in the collection set was copied out, or what comes before the first object without room. Only
-- while objects are evacuated something is left.
abbrev pub all_copied : Config → (Word → ℕ) → Word → ℕ
all_copied config memory word = if memory Phase == evacuation_phase then copied_from config memory config.region_words (config.regions * config.region_words) word else memory word

-- whether all of it finds room
abbrev pub is_room_for_all : Config → (Word → ℕ) → Bool
is_room_for_all config memory = if memory Phase == evacuation_phase then is_room_from config memory config.region_words (config.regions * config.region_words) else true
