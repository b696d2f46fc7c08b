-- Copying objects out of a set of regions, in numbers: each goes to the lowest region outside the set that has room.
use Rattle.std.specs.Prelude.{ℕ, ◌≡◌, ◌+◌, ◌<◌, ◌≤◌, ◌==◌, if◌then◌else◌, true, List, nat_eq, Contains, slice_index, Some}
use Rattle.std.specs.List.{IsDistinct}
use Rattle.std.specs.Int.{bit_at}
use Rattle.heap_words.specs.declared.config.Config.{Config}
use Rattle.heap_words.specs.Words.{Word, Top}
use Rattle.regions.specs.Place.{region_with}
use Rattle.regions.specs.Sets.{IsIn, IsOutside}
use Rattle.regions.specs.ServedRooms.{tops_served, room_at_turn}
use Rattle.cycle_words.specs.Marking.Marks.{is_black}
use Rattle.cycle_words.specs.Evacuation.Live.{words_at}

-- the tops as copying takes them: a region of the set counts as full
abbrev pub tops_outside : (region_words set : ℕ) (top : ℕ → ℕ) → ℕ → ℕ
tops_outside region_words set top region = if bit_at set region == 1 then region_words else top region

-- objects to copy: each is marked, lies in a region of the set, has at most 35 words, and comes once
pub record AreToCopy (config : Config) (memory : Word → ℕ) (set : ℕ) (objects : List ℕ) : Type 0 where
  pub once : IsDistinct nat_eq objects
  pub marked : (address : ℕ) → Contains objects address → is_black config memory address ≡ true
  pub of_region : (address : ℕ) → Contains objects address → region_with config address < config.regions
  pub in_set : (address : ℕ) → Contains objects address → IsIn set (region_with config address)
  pub short : (address : ℕ) → Contains objects address → words_at memory address ≤ 35

-- the words of each of them, by its turn
abbrev pub words_by_turn : (Word → ℕ) → List ℕ → ℕ → ℕ
words_by_turn memory objects index = words_at memory (slice_index objects index)

-- the tops after so many turns, each object copied to the lowest region outside the set that has room
abbrev pub tops_after_copies : Config → (Word → ℕ) → (set : ℕ) → List ℕ → ℕ → ℕ → ℕ
tops_after_copies config memory set objects = tops_served config.region_words config.regions (words_by_turn memory objects) (tops_outside config.region_words set (λ region. memory (Top region)))

-- an object finds room at its turn, in the lowest region outside the set that has it
pub record FindsRoom (config : Config) (memory : Word → ℕ) (set : ℕ) (objects : List ℕ) (turn : ℕ) : Type 0 where
  pub region : ℕ
  pub found : room_at_turn config.region_words config.regions (words_by_turn memory objects) (tops_outside config.region_words set (λ r. memory (Top r))) turn ≡ Some region
  pub below : region < config.regions
  pub outside : IsOutside set region
  pub room : tops_after_copies config memory set objects turn region + words_by_turn memory objects turn ≤ config.region_words
  pub none_lower : (q : ℕ) → q < region → config.region_words < tops_after_copies config memory set objects turn q + words_by_turn memory objects turn
