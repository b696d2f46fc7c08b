-- Candidates in the order of what lives in them, and the longest front of these that fits: what is evacuated first is what
-- costs least to copy. `live` says how much lives in a region.
use Rattle.std.specs.Prelude.{ℕ, ◌≡◌, ◌≢◌, ◌+◌, ◌^◌, ◌<◌, ◌≤◌, ◌⊎◌, ◌==◌, ◌&&◌, ◌||◌, nat_lt, nat_le, not, if◌then◌else◌, Bool, true}
use Rattle.std.specs.Int.{bit_at}
use Rattle.regions.specs.Sets.{IsIn, IsOutside}
use Rattle.regions.specs.Tops.{sum_below}
use Rattle.cycle_words.specs.Marking.Marks.{bits_of}

-- a region comes before another: less lives in it, or as much, and its number is lower
abbrev pub ComesBefore : (live : ℕ → ℕ) → ℕ → ℕ → Type 0
ComesBefore live region other_region = (live region < live other_region) ⊎ ((live region ≡ live other_region) × (region < other_region))

-- the same, as a test
abbrev pub comes_before : (live : ℕ → ℕ) → ℕ → ℕ → Bool
comes_before live region other_region = nat_lt (live region) (live other_region) || ((live region == live other_region) && nat_lt region other_region)

-- what lives in the regions of a set
abbrev pub live_in : (regions : ℕ) (live : ℕ → ℕ) (set : ℕ) → ℕ
live_in regions live set = sum_below (λ region. if bit_at set region == 1 then live region else 0) regions

-- A set of so many regions is a front of the candidates that fits: with a candidate it has each one that comes before, and
-- what lives in it is within a limit.
pub record IsFront (regions limit : ℕ) (live : ℕ → ℕ) (candidate : ℕ → Bool) (set : ℕ) : Type 0 where
  pub in_heap : set < 2 ^ regions
  pub candidates : (region : ℕ) → IsIn set region → candidate region ≡ true
  pub from_front : (region other_region : ℕ) → region < regions → candidate region ≡ true → ComesBefore live region other_region → IsIn set other_region → IsIn set region
  pub fits : live_in regions live set ≤ limit

-- it is the longest one: each other one lies in it
pub record IsLongestFront (regions limit : ℕ) (live : ℕ → ℕ) (candidate : ℕ → Bool) (set : ℕ) : Type 0 where
  pub front : IsFront regions limit live candidate set
  pub longest : (other : ℕ) → IsFront regions limit live candidate other → (region : ℕ) → IsIn other region → IsIn set region

-- what lives in all candidates up to a region, in their order
abbrev pub live_up_to : (regions : ℕ) (live : ℕ → ℕ) (candidate : ℕ → Bool) → ℕ → ℕ
live_up_to regions live candidate region = sum_below (λ other_region. if candidate other_region && not (comes_before live region other_region) then live other_region else 0) regions

-- a candidate is in the longest front: up to it all fits
abbrev pub is_in_front : (regions limit : ℕ) (live : ℕ → ℕ) (candidate : ℕ → Bool) → ℕ → Bool
is_in_front regions limit live candidate region = candidate region && nat_le (live_up_to regions live candidate region) limit

-- the longest front
abbrev pub longest_front : (regions limit : ℕ) (live : ℕ → ℕ) (candidate : ℕ → Bool) → ℕ
longest_front regions limit live candidate = bits_of (is_in_front regions limit live candidate) 0 regions

-- A region is the next one of the candidates outside a set: none of these comes before it.
pub record IsNext (regions : ℕ) (live : ℕ → ℕ) (candidate : ℕ → Bool) (set region : ℕ) : Type 0 where
  pub below : region < regions
  pub is : candidate region ≡ true
  pub outside : IsOutside set region
  pub none_before : (other_region : ℕ) → other_region < regions → candidate other_region ≡ true → IsOutside set other_region → ComesBefore live other_region region → ⊥

-- a set has one region more than another
pub record HasOneMore (set region more : ℕ) : Type 0 where
  pub member : IsIn more region
  pub others : (q : ℕ) → q ≢ region → bit_at more q ≡ bit_at set q

-- The longest front is taken candidate by candidate, in their order, while what lives in them fits.
pub record FrontsAreTaken (regions limit : ℕ) (live : ℕ → ℕ) (candidate : ℕ → Bool) : Type 0 where
  pub begins : IsFront regions limit live candidate 0
  pub goes_on : (set region more : ℕ) → IsFront regions limit live candidate set → IsNext regions live candidate set region → HasOneMore set region more
      → live_in regions live set + live region ≤ limit → IsFront regions limit live candidate more
  pub is_full : (set region : ℕ) → IsFront regions limit live candidate set → IsNext regions live candidate set region
      → limit < live_in regions live set + live region → IsLongestFront regions limit live candidate set
  pub has_all : (set : ℕ) → IsFront regions limit live candidate set → ((region : ℕ) → region < regions → candidate region ≡ true → IsIn set region)
      → IsLongestFront regions limit live candidate set
