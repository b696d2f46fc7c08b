-- The addresses that roots lead to, by current copies, and by the words of the heap alone.
use Rattle.std.specs.Prelude.{ℕ, ◌≡◌, ◌≢◌, ◌+◌, ◌-◌, ◌<◌, ◌≤◌, ◌==◌, ◌||◌, Bool, true, false, List, [], ◌∷◌, ◌++◌, length, map, nat_eq, slice_index, slice_index_or, slice_range, if◌then◌else◌}
use Rattle.std.specs.List.{IsDistinct, list_any}
use Rattle.heap_words.specs.Encoding.{is_forwarded, forwardee_in, refs_in, nums_in, object_words}

-- whether a word is in a list
abbrev pub has : List ℕ → ℕ → Bool
has words word = list_any (nat_eq word) words

-- The parts of the object whose header is the word at an index of the heap.

-- its shape word
abbrev pub shape_at : List ℕ → ℕ → ℕ
shape_at heap index = slice_index heap (index + 1)

-- the words of its references
abbrev pub refs_at : List ℕ → ℕ → List ℕ
refs_at heap index = slice_range heap (index + 3) (index + 3 + refs_in (shape_at heap index))

-- its numbers
abbrev pub nums_at : List ℕ → ℕ → List ℕ
nums_at heap index =
    slice_range heap (index + 3 + refs_in (shape_at heap index)) (index + 3 + refs_in (shape_at heap index) + nums_in (shape_at heap index))

-- how many words it has
abbrev pub size_at : List ℕ → ℕ → ℕ
size_at heap index = object_words (shape_at heap index)

-- the address of the current copy of what a word names, by the header there; null stays null
abbrev pub current_at : (first : ℕ) (heap : List ℕ) → ℕ → ℕ
current_at first heap word =
    if word == 0 then 0 else (if is_forwarded (slice_index heap (word - first)) then forwardee_in (slice_index heap (word - first)) else word)

abbrev pub currents : (first : ℕ) (heap words : List ℕ) → List ℕ
currents first heap words = map (current_at first heap) words

-- the current copy of what a root names, or of what a reference of the object at such an address names, and so on
pub data Leads (first : ℕ) (heap roots : List ℕ) : ℕ → Type 0 where
  from_root : (address : ℕ) → address ≢ 0 → has (currents first heap roots) address ≡ true → Leads first heap roots address
  from_field : (m address : ℕ) → Leads first heap roots m → address ≢ 0 → has (currents first heap (refs_at heap (m - first))) address ≡ true → Leads first heap roots address

-- a word is null, or an address of the heap, and header, shape and name of the current copy there are words of the heap
abbrev pub IsNamed : (first : ℕ) (heap : List ℕ) → ℕ → Type 0
IsNamed first heap address =
    address ≢ 0 → ((first ≤ address) × (address < first + length heap)) × ((first ≤ current_at first heap address) × (current_at first heap address + 3 ≤ first + length heap))

-- Roots, and references of objects that these lead to, name objects among the words. Each object that the roots lead to lies among the
-- words, and no two of them share a word.
pub record IsWalkable (first : ℕ) (heap roots : List ℕ) : Type 0 where
  pub roots_named : (address : ℕ) → has roots address ≡ true → IsNamed first heap address
  pub fields_named : (m address : ℕ) → Leads first heap roots m → has (refs_at heap (m - first)) address ≡ true → IsNamed first heap address
  pub above : (address : ℕ) → Leads first heap roots address → first ≤ address
  pub below : (address : ℕ) → Leads first heap roots address → address + size_at heap (address - first) ≤ first + length heap
  pub apart : (address other_address : ℕ) → Leads first heap roots address → Leads first heap roots other_address → address < other_address → address + size_at heap (address - first) ≤ other_address

-- a word is null, or the address of one of so many words
abbrev pub IsNullOrAmong : (first words : ℕ) → ℕ → Type 0
IsNullOrAmong first words address = address ≢ 0 → (first ≤ address) × (address < first + words)

-- the list has no address twice, and a flag for each address says whether the list has it
pub record IsMarked (first : ℕ) (marks : List Bool) (order : List ℕ) : Type 0 where
  pub once : IsDistinct nat_eq order
  pub among : (a : ℕ) → has order a ≡ true → (first ≤ a) × (a < first + length marks)
  pub flags : (index : ℕ) → index < length marks → slice_index_or marks index false ≡ has order (first + index)

-- the list with an address at its end, unless that is null or is there already
abbrev pub with_address : List ℕ → ℕ → List ℕ
with_address order address = if (address == 0) || has order address then order else order ++ address ∷ []

-- the list with each of these addresses
abbrev pub with_addresses : List ℕ → List ℕ → List ℕ
with_addresses order [] = order
with_addresses order (address ∷ others) = with_addresses (with_address order address) others

-- the addresses that the roots lead to, each once
pub record IsWalk (first : ℕ) (heap roots order : List ℕ) : Type 0 where
  pub once : IsDistinct nat_eq order
  pub led : (a : ℕ) → has order a ≡ true → Leads first heap roots a
  pub all : (a : ℕ) → Leads first heap roots a → has order a ≡ true
