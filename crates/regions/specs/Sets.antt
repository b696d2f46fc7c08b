-- Sets of regions: region r is in a set where bit r of the word is 1.
use Rattle.std.specs.Prelude.{ℕ, ◌≡◌, ◌+◌, ◌*◌, ◌%◌, ◌^◌, ◌<◌, zero, suc}
use Rattle.std.specs.Int.{bit_at, w64, bit_not, trailing_zeros}

-- a region is in a set
abbrev pub IsIn : ℕ → ℕ → Type 0
IsIn set region = bit_at set region ≡ 1

-- a region is not in a set
abbrev pub IsOutside : ℕ → ℕ → Type 0
IsOutside set region = bit_at set region ≡ 0

-- how many regions below a number are in a set
unfoldable pub members_below : ℕ → ℕ → ℕ
members_below set zero = 0
members_below set (suc region) = members_below set region + bit_at set region

-- a region is in a set, and no lower one is
pub record IsLowest (set region : ℕ) : Type 0 where
  pub member : IsIn set region
  pub none_lower : (lower : ℕ) → lower < region → IsOutside set lower
  pub in_word : region < 64

-- the lowest region of a set that has one
abbrev pub lowest_in : ℕ → ℕ
lowest_in set = trailing_zeros w64 set

-- all regions but one
abbrev pub all_but : ℕ → ℕ
all_but region = bit_not w64 (1 * 2 ^ region % 2 ^ 64)
