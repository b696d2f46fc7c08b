-- How much lives in each candidate, as a table.
use Rattle.std.specs.Prelude.{ℕ, ◌≡◌, ◌<◌, ◌≤◌, ◌==◌, ◌&&◌, not, if◌then◌else◌, true, List, length, slice_index}
use Rattle.std.specs.Int.{bit_at}
use Rattle.heap_words.specs.declared.config.Config.{Config}
use Rattle.heap_words.specs.Words.{Word}
use Rattle.regions.specs.Tops.{sum_below}
use Rattle.cycle_words.specs.Evacuation.Live.{live_words, is_candidate}
use Rattle.cycle_words.specs.Evacuation.Front.{comes_before}

-- no more lives in a region than 513 words at each of 2^25 addresses
abbrev pub most_live : ℕ
most_live = 17213423616

-- a table of 64 numbers has the live words of each candidate; what it has at another region says nothing
pub record AreLive (config : Config) (memory : Word → ℕ) (live : List ℕ) : Type 0 where
  pub long : length live ≡ 64
  pub small : (region : ℕ) → region < 64 → slice_index live region ≤ most_live
  pub is : (region : ℕ) → region < config.regions → is_candidate config memory region ≡ true → slice_index live region ≡ live_words config memory region

-- what a region adds to what lives, by a table, in the regions of a set up to another one, in the order of the choice
abbrev pub adds : (live : List ℕ) (set : ℕ) → ℕ → ℕ → ℕ
adds live set last_region region = if (bit_at set region == 1) && not (comes_before (slice_index live) last_region region) then slice_index live region else 0

-- what lives in all of them
abbrev pub up_to : (live : List ℕ) (set regions : ℕ) → ℕ → ℕ
up_to live set regions last_region = sum_below (adds live set last_region) regions
