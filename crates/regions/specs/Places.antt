-- Where the kept objects of a heap are packed: in the order of addresses, each behind the one before, around the regions that
-- are shut, where they stay.
--
-- `kept` says how many words the kept object has that begins at an address, and is 0 where none begins. So an address
-- without an object is no case of its own: its 0 words change nothing.
--
-- Region r has the addresses from (r + 1) * region_words on, and where it ends the next one begins. So the end of what
-- was placed is one number: at the end of a region and at the base of the next one is the same place. A row is a region counted
-- from 1: the address a lies in the row a / region_words. `shut` says of a row whether its region is shut.
use Rattle.std.specs.Prelude.{ℕ, ◌+◌, ◌-◌, ◌*◌, ◌/◌, ◌%◌, ◌<◌, ◌≤◌, ◌==◌, ◌&&◌, Bool, false, zero, suc, nat_le, if◌then◌else◌}
use Rattle.std.specs.Int.{bit_at}

-- whether the region of a row is in a set of regions, which are counted from 0
abbrev pub is_shut : (set : ℕ) → ℕ → Bool
is_shut set row = nat_le row 64 && (bit_at set (row - 1) == 1)

-- no region is shut
abbrev pub none_shut : ℕ → Bool
none_shut row = false

-- the first row from one on that is not shut, where so many are looked at
unfoldable pub next_open : (shut : ℕ → Bool) → (rows row : ℕ) → ℕ
next_open shut zero row = row
next_open shut (suc rows) row = if shut row then next_open shut rows (row + 1) else row

-- the first row that has room for so many words behind what ends at an address, be it shut or not
abbrev pub first_row : (region_words : ℕ) → (end words : ℕ) → ℕ
first_row region_words end words = if nat_le (end % region_words + words) region_words then end / region_words else end / region_words + 1

-- the first of these that is open: a heap has at most 64 rows
abbrev pub open_row : (region_words : ℕ) (shut : ℕ → Bool) → (end words : ℕ) → ℕ
open_row region_words shut end words = next_open shut 64 (first_row region_words end words)

-- Where so many words go that are placed behind what ends at an address: there, or, where they do not fit into its region or
-- that is shut, at the base of the next one that is open. No words go nowhere.
abbrev pub place_around : (region_words : ℕ) (shut : ℕ → Bool) → (end words : ℕ) → ℕ
place_around region_words shut end words =
    if words == 0 then end else (if open_row region_words shut end words == end / region_words then end else open_row region_words shut end words * region_words)

-- where so many words go where nothing is shut
abbrev pub place_behind : (region_words : ℕ) → (end words : ℕ) → ℕ
place_behind region_words end words = if nat_le (end % region_words + words) region_words then end else (end / region_words + 1) * region_words

-- the words of the kept objects in open regions: those in shut ones count for nothing in packing
abbrev pub open_kept : (region_words : ℕ) (shut : ℕ → Bool) (kept : ℕ → ℕ) → ℕ → ℕ
open_kept region_words shut kept address = if shut (address / region_words) then 0 else kept address

-- where the last one ends of the kept objects that begin below an address in open regions, once each is placed behind the one before
unfoldable pub end_before : (region_words : ℕ) (shut : ℕ → Bool) (kept : ℕ → ℕ) → ℕ → ℕ
end_before region_words shut kept zero = region_words
end_before region_words shut kept (suc address) =
    place_around region_words shut (end_before region_words shut kept address) (open_kept region_words shut kept address) + open_kept region_words shut kept address

-- the place of the kept object that begins at an address: in a shut region it stays
abbrev pub new_place : (region_words : ℕ) (shut : ℕ → Bool) (kept : ℕ → ℕ) → ℕ → ℕ
new_place region_words shut kept address = if shut (address / region_words) then address else place_around region_words shut (end_before region_words shut kept address) (kept address)

-- kept objects lie apart, and each within one region
pub record LieApart (region_words : ℕ) (kept : ℕ → ℕ) : Type 0 where
  pub some : 0 < region_words
  pub above : (a : ℕ) → 0 < kept a → region_words ≤ a
  pub within : (a : ℕ) → 0 < kept a → a % region_words + kept a ≤ region_words
  pub apart : (a b : ℕ) → 0 < kept a → 0 < kept b → a < b → a + kept a ≤ b
