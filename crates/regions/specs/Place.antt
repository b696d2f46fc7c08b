-- Where the regions of the heap lie: one after another, each of the same number of words.
use Rattle.std.specs.Prelude.{ℕ, ◌≡◌, ◌+◌, ◌-◌, ◌*◌, ◌/◌, ◌<◌, ◌≤◌}
use Rattle.heap_words.specs.declared.config.Config.{Config}
use Rattle.heap_words.specs.Words.{Heap, IsWord}

-- the region that an address is of
abbrev pub region_with : Config → ℕ → ℕ
region_with config address = address / config.region_words - 1

-- the first address of a region
abbrev pub base_of : Config → ℕ → ℕ
base_of config region = (region + 1) * config.region_words

-- an address is one of a region's
pub record IsOf (config : Config) (region address : ℕ) : Type 0 where
  pub from : base_of config region ≤ address
  pub before : address < base_of config region + config.region_words

-- each address of the heap is of exactly one region, and a region has no addresses but the heap's
pub record RegionsTile : Type 0 where
  pub of_one : (config : Config) (address : ℕ)
      → IsWord config (Heap address) → IsOf config (region_with config address) address
  pub in_range : (config : Config) (address : ℕ)
      → IsWord config (Heap address) → region_with config address < config.regions
  pub of_no_other : (config : Config) (region address : ℕ)
      → IsOf config region address → region_with config address ≡ region
  pub in_heap : (config : Config) (region address : ℕ)
      → region < config.regions → IsOf config region address → IsWord config (Heap address)
