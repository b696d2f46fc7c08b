-- Whether a machine that resolves an address can make its next access, and by which words it can go on.
use Rattle.std.specs.Prelude.{ℕ, ◌≡◌, ◌≢◌, ◌+◌, ◌*◌, ◌^◌, Bool, true, false, ◌&&◌, nat_lt, nat_le, ⊤, if◌then◌else◌}
use Rattle.heap_words.specs.declared.config.Config.{Config}
use Rattle.heap_words.specs.Words.{Heap, is_word}
use Rattle.alloc_buffers.specs.declared.spot.TakeSpot.{TakeSpot}
use Rattle.alloc_buffers.specs.Rows as takes
use Rattle.evac_room.specs.Spot.{is_ended, is_entering, is_stopping, raises_clear}
use Rattle.load_barrier.specs.declared.copying.CopySpot.{CopySpot}
use Rattle.load_barrier.specs.declared.copying.CopySpot.TheVariants.{LoadWord, StoreWord, StoreHeader, Publish, GiveBack}
use Rattle.load_barrier.specs.declared.spot.ResolveSpot.{ResolveSpot}
use Rattle.load_barrier.specs.declared.spot.ResolveSpot.TheVariants.{LoadHeader, Entering, LoadShape, Taking, Copying, Leaving, Stopping, LoadAgain, Resolved}
use Rattle.load_barrier.specs.Rows.{next_at}

-- whether so many words from an address on lie in the heap
abbrev pub has_words : Config → ℕ → ℕ → Bool
has_words config address words = nat_le config.region_words address && nat_le (address + words) ((config.regions + 1) * config.region_words)

-- whether they are as many as an object has
abbrev pub is_word_count : ℕ → Bool
is_word_count words = nat_le 3 words && nat_le words 35

-- whether a part that has its own end has not come to it
abbrev pub is_busy : Bool → Bool
is_busy ended = if ended then false else true

-- whether an object of so many words lies in the heap
abbrev pub is_object : Config → ℕ → ℕ → Bool
is_object config address words = is_word_count words && has_words config address words

-- whether a word of an object and of its copy, counted from 0, can be copied
abbrev pub is_copied : Config → ℕ → ℕ → ℕ → ℕ → Bool
is_copied config address copy words index = is_object config address words && (has_words config copy words && nat_lt index words)

-- whether the numbers of a spot of a copying are in range
abbrev pub copy_ready : Config → ℕ → ℕ → CopySpot → Bool
copy_ready config address copy (LoadWord words index) = is_copied config address copy words index
copy_ready config address copy (StoreWord words index found) = is_copied config address copy words index
copy_ready config address copy StoreHeader = is_word config (Heap copy)
copy_ready config address copy Publish = is_word config (Heap copy)
copy_ready config address copy (GiveBack answer) = is_word config (Heap copy) && is_word config (Heap answer)

-- whether those of a taking of room for a copy are
abbrev pub take_ready : Config → ℕ → ℕ → ℕ → TakeSpot → Bool
take_ready config seat address words spot = is_object config address words && (is_busy (takes.is_ended spot) && takes.is_ready config seat words spot)

-- whether the numbers of a spot are in range, for the machine of a seat that resolves the address: the next access can be made
abbrev pub is_ready : Config → ℕ → ℕ → ResolveSpot → Bool
is_ready config seat address LoadHeader = true
is_ready config seat address (Entering spot) = is_entering spot && (raises_clear spot && is_busy (is_ended spot))
is_ready config seat address LoadShape = is_word config (Heap (address + 1))
is_ready config seat address (Taking words spot) = take_ready config seat address words spot
is_ready config seat address (Copying copy end spot) = copy_ready config address copy spot && nat_lt end (2 ^ 32)
is_ready config seat address (Leaving answer) = is_word config (Heap answer)
is_ready config seat address (Stopping spot) = is_stopping spot && is_busy (is_ended spot)
is_ready config seat address LoadAgain = true
is_ready config seat address (Resolved answer) = is_word config (Heap answer)

-- whether it can go on with the word
abbrev pub goes_on : Config → ℕ → ℕ → ℕ → ResolveSpot → ℕ → Bool
goes_on config seat address phase spot got = is_ready config seat address (next_at config address phase spot got)

-- the counter of copiers is not 0 where one of them leaves
abbrev pub LeavesFit : ResolveSpot → ℕ → Type 0
LeavesFit (Leaving answer) got = got ≢ 0
LeavesFit _ got = ⊤

-- the word is fit: the access that follows can be made, and nobody leaves that is not counted
abbrev pub IsFit : Config → ℕ → ℕ → ℕ → ResolveSpot → ℕ → Type 0
IsFit config seat address phase spot got = (goes_on config seat address phase spot got ≡ true) × LeavesFit spot got
