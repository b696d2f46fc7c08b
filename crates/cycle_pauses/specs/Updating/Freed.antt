-- What the end of updating makes of a region.
use Rattle.std.specs.Prelude.{ℕ, ◌≡◌}
use Rattle.heap_words.specs.Words.{Word, Free, Top, Tams, Limit}
use Rattle.regions.specs.Sets.{IsIn}

-- a region is free, and no word of it is in use
pub record IsFreed (memory : Word → ℕ) (region : ℕ) : Type 0 where
  pub is_free : IsIn (memory Free) region
  pub top : memory (Top region) ≡ 0
  pub tams : memory (Tams region) ≡ 0
  pub limit : memory (Limit region) ≡ 0

-- a region is free in both memories or in none, and as much of it is in use
pub record IsSpared (before after : Word → ℕ) (region : ℕ) : Type 0 where
  pub was_free : IsIn (after Free) region → IsIn (before Free) region
  pub still_free : IsIn (before Free) region → IsIn (after Free) region
  pub top : after (Top region) ≡ before (Top region)
  pub tams : after (Tams region) ≡ before (Tams region)
  pub limit : after (Limit region) ≡ before (Limit region)
