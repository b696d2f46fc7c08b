-- How much room the regions have left above their tops.
use Rattle.std.specs.Prelude.{ℕ, ◌≡◌, ◌-◌, ◌<◌, ◌≤◌, List, length, slice_index}
use Rattle.heap_words.specs.declared.config.Config.{Config}
use Rattle.regions.specs.Sets.{IsOutside}

-- the words that a region has left above its top
abbrev pub room_above : Config → ℕ → ℕ
room_above config top = config.region_words - top

-- one top for each region, none above the words of a region
pub record AreTops (config : Config) (tops : List ℕ) : Type 0 where
  pub one_each : length tops ≡ config.regions
  pub within : (region : ℕ) → region < config.regions → slice_index tops region ≤ config.region_words

-- each region below a number is in the set, or has less room than so many words
abbrev pub EachHasLess : Config → List ℕ → ℕ → ℕ → ℕ → Type 0
EachHasLess config tops not_in words bound =
    (region : ℕ) → region < bound → IsOutside not_in region → room_above config (slice_index tops region) < words

-- the lowest region outside the set that has room for so many words
pub record IsFirstWithRoom (config : Config) (tops : List ℕ) (not_in words region : ℕ) : Type 0 where
  pub below : region < config.regions
  pub outside : IsOutside not_in region
  pub room : words ≤ room_above config (slice_index tops region)
  pub none_lower : EachHasLess config tops not_in words region
