-- Slices as a heap: a word, a flag and a new place for each address from `first` on, which is the words of a region too.
use Rattle.std.specs.Prelude.{ℕ, ◌≡◌, ◌≢◌, ◌+◌, ◌-◌, ◌^◌, ◌<◌, ◌≤◌, ◌==◌, ◌&&◌, nat_le, nat_lt, if◌then◌else◌, Bool, false, List, length, slice_index, slice_index_or}
use Rattle.heap_words.specs.Encoding.{refs_in, object_words, is_forwarded, forwardee_in}
use Rattle.regions.specs.Places.{LieApart, new_place}
use Rattle.regions.specs.Slide.{slid_word, renewed, PlacesApart}

-- the word at an address
abbrev pub word_of : (first : ℕ) (heap : List ℕ) → ℕ → ℕ
word_of first heap address = slice_index heap (address - first)

-- the words of the object that begins at an address, if it is marked
abbrev pub kept_of : (first : ℕ) (heap : List ℕ) (marks : List Bool) → ℕ → ℕ
kept_of first heap marks address = if nat_le first address && slice_index_or marks (address - first) false then object_words (slice_index heap (address - first + 1)) else 0

-- marked objects lie apart, each within one region and within the heap, which is small enough for sums of addresses
pub record IsMarkedHeap (first : ℕ) (heap : List ℕ) (marks : List Bool) : Type 0 where
  pub apart : LieApart first (kept_of first heap marks)
  pub flags : length marks ≡ length heap
  pub inside : (a : ℕ) → 0 < kept_of first heap marks a → a + kept_of first heap marks a ≤ first + length heap
  pub small : first + length heap ≤ 2 ^ 32

-- the table has the new place of each kept object
abbrev pub HavePlaces : (first : ℕ) (shut : ℕ → Bool) (kept : ℕ → ℕ) (places : List ℕ) → Type 0
HavePlaces first shut kept places = (address : ℕ) → 0 < kept address → word_of first places address ≡ new_place first shut kept address

-- The table places kept objects apart, in the heap, and none above where it lies: so they can be moved one after the other, in the
-- order of addresses.
pub record IsPlacing (first : ℕ) (kept : ℕ → ℕ) (places : List ℕ) : Type 0 where
  pub low : (a : ℕ) → 0 < kept a → first ≤ word_of first places a
  pub down : (a : ℕ) → 0 < kept a → word_of first places a ≤ a
  pub apart : PlacesApart (word_of first places) kept

-- a word is null, or the table has an entry for its address
abbrev pub IsInTable : (first : ℕ) (places : List ℕ) → ℕ → Type 0
IsInTable first places word = word ≢ 0 → (first ≤ word) × (word < first + length places)

-- what the table renews a reference to
abbrev pub from_table : (first : ℕ) (places : List ℕ) → ℕ → ℕ
from_table first places word = if word == 0 then 0 else word_of first places word

-- each reference of a kept object is null, or the table has an entry for its address
abbrev pub AreInTable : (first : ℕ) (kept heap : ℕ → ℕ) (places : List ℕ) → Type 0
AreInTable first kept heap places = (address field : ℕ) → 0 < kept address → field < refs_in (heap (address + 1)) → IsInTable first places (heap (address + (3 + field)))

-- An object was moved from one index to another, and no other word was changed.
pub record IsMovedTo (renew : ℕ → ℕ) (from to : ℕ) (before after : List ℕ) : Type 0 where
  pub moved : (index : ℕ) → index < object_words (slice_index before (from + 1)) → slice_index after (to + index) ≡ slid_word renew (slice_index before) from index
  pub below : (index : ℕ) → index < to → slice_index after index ≡ slice_index before index
  pub behind : (index : ℕ) → to + object_words (slice_index before (from + 1)) ≤ index → slice_index after index ≡ slice_index before index

-- the index of the current copy of what begins at an index: that of the address in its header, if that is forwarded to
-- an address of the heap, and else its own
abbrev pub current_index : (first : ℕ) (heap : List ℕ) → ℕ → ℕ
current_index first heap index =
    if is_forwarded (slice_index heap index) && (nat_le first (forwardee_in (slice_index heap index)) && nat_lt (forwardee_in (slice_index heap index)) (first + length heap))
    then forwardee_in (slice_index heap index) - first else index

-- what begins at an index is its own current copy
abbrev pub IsOwnCopy : (first : ℕ) (heap : List ℕ) → ℕ → Type 0
IsOwnCopy first heap index = current_index first heap index ≡ index

-- the address of the current copy of what begins at an address, by its header
abbrev pub now_of : (first : ℕ) (heap : List ℕ) → ℕ → ℕ
now_of first heap address = if is_forwarded (word_of first heap address) then forwardee_in (word_of first heap address) else address

-- a word is null, or the address of an old or current copy in the heap whose current copy is kept
abbrev pub LeadsToKept : (first : ℕ) (heap : List ℕ) (marks : List Bool) → ℕ → Type 0
LeadsToKept first heap marks word =
    word ≢ 0 → (first ≤ word) × (word < first + length heap) × (0 < kept_of first heap marks (now_of first heap word))

-- What is marked can be packed: marked objects are current copies, and their references lead to marked ones.
pub record CanCompact (first : ℕ) (heap : List ℕ) (marks : List Bool) : Type 0 where
  pub marked : IsMarkedHeap first heap marks
  pub current : (a : ℕ) → 0 < kept_of first heap marks a → now_of first heap a ≡ a
  pub closed : (a i : ℕ) → 0 < kept_of first heap marks a → i < refs_in (word_of first heap (a + 1)) → LeadsToKept first heap marks (word_of first heap (a + (3 + i)))

-- the place of a marked object, around the regions that are shut
abbrev pub place_of : (first : ℕ) (shut : ℕ → Bool) (heap : List ℕ) (marks : List Bool) → ℕ → ℕ
place_of first shut heap marks = new_place first shut (kept_of first heap marks)

-- the table renews a word as it should
pub record IsRenewedBy (first : ℕ) (shut : ℕ → Bool) (heap : List ℕ) (marks : List Bool) (places : List ℕ) (word : ℕ) : Type 0 where
  pub in_table : IsInTable first places word
  pub renewed_as : from_table first places word ≡ renewed (place_of first shut heap marks) (now_of first heap) word
