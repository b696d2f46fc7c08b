-- Whether a machine that works on a unit of evacuation can make its next access, and by which words it can go on.
use Rattle.std.specs.Prelude.{ℕ, ◌≡◌, ◌+◌, Bool, true, ◌&&◌, nat_lt, nat_le, ⊤, if◌then◌else◌}
use Rattle.heap_words.specs.declared.config.Config.{Config}
use Rattle.heap_words.specs.Words.{Heap, is_word}
use Rattle.load_barrier.specs.declared.spot.ResolveSpot.{ResolveSpot}
use Rattle.load_barrier.specs.Rows.{is_ended}
use Rattle.load_barrier.specs.Fit as resolve
use Rattle.load_barrier.specs.declared.evac_spot.EvacSpot.{EvacSpot}
use Rattle.load_barrier.specs.declared.evac_spot.EvacSpot.TheVariants.{LoadClaim, ClaimUnit, LoadTop, LoadFirst, LoadShape, LoadMark, Resolving, Ended}
use Rattle.heap_words.specs.Phases.{evacuation_phase}
use Rattle.load_barrier.specs.UnitRows.{next_at}

-- whether the header and the shape of an object at an address lie in the heap
abbrev pub has_shape : Config → ℕ → Bool
has_shape config address = is_word config (Heap address) && is_word config (Heap (address + 1))

-- whether a walk can go on at an address: it has come to the end, or a header can be loaded there
abbrev pub is_walkable : Config → ℕ → ℕ → Bool
is_walkable config address end = if nat_lt address end then is_word config (Heap address) else true

-- whether a resolving of the address can make its next access
abbrev pub resolve_ready : Config → ℕ → ℕ → ResolveSpot → Bool
resolve_ready config seat address spot = resolve.is_ready config seat address spot && resolve.is_busy (is_ended spot)

-- whether the numbers of a spot are in range, for the machine of a seat: the next access can be made
abbrev pub is_ready : Config → ℕ → EvacSpot → Bool
is_ready config seat LoadClaim = true
is_ready config seat (ClaimUnit unit) = nat_lt unit config.regions
is_ready config seat (LoadTop region) = nat_lt region config.regions
is_ready config seat (LoadFirst address end) = is_word config (Heap address)
is_ready config seat (LoadShape address end) = has_shape config address
is_ready config seat (LoadMark address end next) = has_shape config address && is_walkable config next end
is_ready config seat (Resolving address end next spot) = has_shape config address && (is_walkable config next end && resolve_ready config seat address spot)
is_ready config seat (Ended unit) = true

-- the word is fit for the part: a top is at most the words of a region, and a resolving can go on
abbrev pub PartFit : Config → ℕ → EvacSpot → ℕ → Type 0
PartFit config seat (LoadTop region) got = nat_le got config.region_words ≡ true
PartFit config seat (Resolving address end next spot) got = resolve.IsFit config seat address evacuation_phase spot got
PartFit config seat _ got = ⊤

-- the word is fit: the access that follows can be made
abbrev pub IsFit : Config → ℕ → ℕ → EvacSpot → ℕ → Type 0
IsFit config seat cset spot got = (is_ready config seat (next_at config cset spot got) ≡ true) × PartFit config seat spot got
