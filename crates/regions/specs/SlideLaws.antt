-- What holds of every packing, and of every round of requests.
use Rattle.std.specs.Prelude.{ℕ, ◌≡◌, ◌+◌, ◌-◌, ◌*◌, ◌/◌, ◌%◌, ◌<◌, ◌≤◌, Bool, true, false, if◌then◌else◌, Some, None}
use Rattle.regions.specs.Places.{LieApart, new_place, open_kept}
use Rattle.regions.specs.Tops.{sum_below, top_before}
use Rattle.regions.specs.ServedRooms.{NoneHasRoom, IsLowestRoom, tops_served, room_at_turn, granted}

-- No kept object is placed above the address where it lay, so each one fits. Those of open regions stay apart, in the order in which
-- they lay; each stays within one region, which is open where it was.
pub record EachFits (region_words : ℕ) (shut : ℕ → Bool) (kept : ℕ → ℕ) : Type 0 where
  pub not_above : (a : ℕ) → 0 < kept a → new_place region_words shut kept a ≤ a
  pub in_heap : (a : ℕ) → 0 < kept a → region_words ≤ new_place region_words shut kept a
  pub within : (a : ℕ) → 0 < kept a → new_place region_words shut kept a % region_words + kept a ≤ region_words
  pub same_kind : (a : ℕ) → 0 < kept a → shut (new_place region_words shut kept a / region_words) ≡ shut (a / region_words)
  pub apart : (a b : ℕ) → 0 < open_kept region_words shut kept a → shut (b / region_words) ≡ false → a < b
      → new_place region_words shut kept a + kept a ≤ new_place region_words shut kept b

-- kept objects that lie apart fit where they are packed, in a heap of at most 64 regions
abbrev pub PackingFits : Type 0
PackingFits = (region_words : ℕ) (shut : ℕ → Bool) (kept : ℕ → ℕ) → LieApart region_words kept
    → ((address : ℕ) → 0 < kept address → address < 65 * region_words) → EachFits region_words shut kept

-- Each kept object of an open region is placed at the top that its region has by then, no top is above the region's words, no word is
-- placed in a shut region, and the tops of all regions are together the words of the kept objects of open regions.
pub record TopsAreFilled (region_words : ℕ) (shut : ℕ → Bool) (kept : ℕ → ℕ) (regions : ℕ) : Type 0 where
  pub at_top : (region a : ℕ) → 0 < open_kept region_words shut kept a → new_place region_words shut kept a / region_words ≡ region + 1
      → new_place region_words shut kept a ≡ (region + 1) * region_words + top_before region_words shut kept region a
  pub within : (region e : ℕ) → top_before region_words shut kept region e ≤ region_words
  pub none_in_shut : (region e : ℕ) → shut (region + 1) ≡ true → top_before region_words shut kept region e ≡ 0
  pub sum : (e : ℕ) → sum_below (λ region. top_before region_words shut kept region e) regions ≡ sum_below (open_kept region_words shut kept) e

-- where all kept objects lie within so many regions, this holds of the tops after packing
abbrev pub PackingFills : Type 0
PackingFills = (region_words : ℕ) (shut : ℕ → Bool) (kept : ℕ → ℕ) (regions : ℕ) → LieApart region_words kept → regions ≤ 64
    → ((address : ℕ) → 0 < kept address → address < (regions + 1) * region_words) → TopsAreFilled region_words shut kept regions

-- how many of so many regions pass a test, and the sum of their tops
abbrev pub count_where : (test : ℕ → Bool) → ℕ → ℕ
count_where test regions = sum_below (λ r. if test r then 1 else 0) regions

abbrev pub tops_where : (test : ℕ → Bool) (top : ℕ → ℕ) → ℕ → ℕ
tops_where test top regions = sum_below (λ r. if test r then top r else 0) regions

-- A request that finds no room at its turn found less than it asks for above each top. So, where it is no longer than a
-- region, what the regions of a set held before and what was given before it in this round crowd these, whichever set it is.
pub record IsCrowdedOut (region_words regions : ℕ) (asked top : ℕ → ℕ) (t : ℕ) : Type 0 where
  pub each : NoneHasRoom region_words (tops_served region_words regions asked top t) (asked t) regions
  pub crowded : (test : ℕ → Bool) → asked t ≤ region_words
      → count_where test regions * (region_words - asked t + 1) ≤ tops_where test top regions + sum_below (granted region_words regions asked top) t

-- A request gets the lowest room there is at its turn. It is left exactly where each region has less room then, and
-- then it is crowded out. What is given is what the tops grow by.
pub record RequestsAreServed : Type 0 where
  pub left : (region_words regions : ℕ) (asked top : ℕ → ℕ) (t : ℕ)
      → room_at_turn region_words regions asked top t ≡ None → IsCrowdedOut region_words regions asked top t
  pub found : (region_words regions : ℕ) (asked top : ℕ → ℕ) (t r : ℕ)
      → room_at_turn region_words regions asked top t ≡ Some r → IsLowestRoom region_words (tops_served region_words regions asked top t) (asked t) regions r
  pub refused : (region_words regions : ℕ) (asked top : ℕ → ℕ) (t : ℕ)
      → NoneHasRoom region_words (tops_served region_words regions asked top t) (asked t) regions
      → room_at_turn region_words regions asked top t ≡ None
  pub sum : (region_words regions : ℕ) (asked top : ℕ → ℕ) (t : ℕ)
      → sum_below (tops_served region_words regions asked top t) regions ≡ sum_below top regions + sum_below (granted region_words regions asked top) t
