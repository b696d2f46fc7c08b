-- What requests for words get: each a place in the lowest region that has room for it, one request after the other.
-- Who asks for nothing asks for 0 words, which are given somewhere and change no top.
use Rattle.std.specs.Prelude.{ℕ, ◌+◌, ◌<◌, ◌≤◌, ◌==◌, zero, suc, nat_le, if◌then◌else◌, Option, Some, None}

-- the first of two that is there
abbrev pub first_of_two : Option ℕ → Option ℕ → Option ℕ
first_of_two (Some region) other = Some region
first_of_two None other = other

-- the lowest of so many regions that has room for so many words above its top
unfoldable pub lowest_room : (region_words : ℕ) (top : ℕ → ℕ) (words : ℕ) → ℕ → Option ℕ
lowest_room region_words top words zero = None
lowest_room region_words top words (suc region) = first_of_two (lowest_room region_words top words region) (if nat_le (top region + words) region_words then Some region else None)

-- no region has room for so many words above its top
abbrev pub NoneHasRoom : (region_words : ℕ) (top : ℕ → ℕ) (words regions : ℕ) → Type 0
NoneHasRoom region_words top words regions = (region : ℕ) → region < regions → region_words < top region + words

-- a region has room for so many words above its top, and no lower one has
pub record IsLowestRoom (region_words : ℕ) (top : ℕ → ℕ) (words regions r : ℕ) : Type 0 where
  pub below : r < regions
  pub room : top r + words ≤ region_words
  pub none_lower : (q : ℕ) → q < r → region_words < top q + words

-- the tops after so many words were taken in a region, if there is one
abbrev pub taken_in : (top : ℕ → ℕ) (words : ℕ) → Option ℕ → ℕ → ℕ
taken_in top words None asked_region = top asked_region
taken_in top words (Some region) asked_region = if region == asked_region then top region + words else top asked_region

-- the tops after so many requests were served, one after the other, each in the lowest region that has room
unfoldable pub tops_served : (region_words regions : ℕ) (asked top : ℕ → ℕ) → ℕ → ℕ → ℕ
tops_served region_words regions asked top zero region = top region
tops_served region_words regions asked top (suc turn) region =
    taken_in (tops_served region_words regions asked top turn) (asked turn) (lowest_room region_words (tops_served region_words regions asked top turn) (asked turn) regions) region

-- so many words, if a region was found for them
abbrev pub given_by : Option ℕ → ℕ → ℕ
given_by None words = 0
given_by (Some region) words = words

-- the region that the request of a thread finds at its turn
abbrev pub room_at_turn : (region_words regions : ℕ) (asked top : ℕ → ℕ) → ℕ → Option ℕ
room_at_turn region_words regions asked top turn = lowest_room region_words (tops_served region_words regions asked top turn) (asked turn) regions

-- the words that the request of a thread is given at its turn
abbrev pub granted : (region_words regions : ℕ) (asked top : ℕ → ℕ) → ℕ → ℕ
granted region_words regions asked top turn = given_by (room_at_turn region_words regions asked top turn) (asked turn)
