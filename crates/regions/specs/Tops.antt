-- How many words of each open region the packed objects take.
use Rattle.std.specs.Prelude.{ℕ, ◌+◌, ◌/◌, ◌==◌, Bool, zero, suc, if◌then◌else◌}
use Rattle.regions.specs.Places.{open_kept, new_place}

-- the sum of a function of the numbers below a number
unfoldable pub sum_below : (ℕ → ℕ) → ℕ → ℕ
sum_below f zero = 0
sum_below f (suc n) = sum_below f n + f n

-- the words of the kept object that begins at an address, if it lies in an open region and is placed in the region
abbrev pub words_in : (region_words : ℕ) (shut : ℕ → Bool) (kept : ℕ → ℕ) (region : ℕ) → ℕ → ℕ
words_in region_words shut kept region address = if new_place region_words shut kept address / region_words == region + 1 then open_kept region_words shut kept address else 0

-- the words that are placed in a region, of the kept objects that begin below an address
abbrev pub top_before : (region_words : ℕ) (shut : ℕ → Bool) (kept : ℕ → ℕ) (region : ℕ) → ℕ → ℕ
top_before region_words shut kept region = sum_below (words_in region_words shut kept region)
