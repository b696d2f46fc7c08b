-- The walk over what stands in a region: from its base on, one thing ends where the next begins.
-- `words a` is how many words stand as one from the address a on.
use Rattle.std.specs.Prelude.{ℕ, ◌≡◌, ◌+◌, ◌-◌, ◌<◌, ◌≤◌, ◌/◌, ◌%◌, ◌==◌, zero, suc, nat_lt, if◌then◌else◌, Bool, List, [], ◌∷◌, ◌++◌, Contains, sum_by, IsTrue}
use Rattle.std.specs.List.Sorted.{IsStrictlyIncreasing}
use Rattle.heap_words.specs.declared.config.Config.{Config}
use Rattle.heap_words.specs.Encoding.{object_words}
use Rattle.regions.specs.Place.{base_of, IsOf}

-- a header is that of words that only fill
abbrev pub is_filler : ℕ → Bool
is_filler header = header % 4 == 2

-- how many words stand as one behind a header: those that only fill, or the words of an object, by its shape word
abbrev pub stride : (header shape : ℕ) → ℕ
stride header shape = if is_filler header then header / 4 else object_words shape

-- the words of what stands at an address
abbrev pub stride_at : (ℕ → ℕ) → ℕ → ℕ
stride_at heap address = stride (heap address) (heap (address + 1))

-- Objects, and words that only fill, stand one after another from an address on: how far behind it the one begins that has the word at a
-- distance.
unfoldable pub start_of : (heap : ℕ → ℕ) (base : ℕ) → ℕ → ℕ
start_of heap base zero = 0
start_of heap base (suc distance) =
    if start_of heap base distance + stride_at heap (base + start_of heap base distance) == suc distance then suc distance else start_of heap base distance

-- From one address one comes to the end, and the list has the addresses met, in order. Each step goes on.
abbrev pub Walks : (ℕ → ℕ) → ℕ → ℕ → List ℕ → Type 0
Walks words from end [] = from ≡ end
Walks words from end (address ∷ later) = (address ≡ from) × (0 < words address) × Walks words (address + words address) end later

-- the addresses that a walk meets before the end, in at most so many steps
abbrev pub met_within : ℕ → (ℕ → ℕ) → ℕ → ℕ → List ℕ
met_within zero words from end = []
met_within (suc steps) words from end = if nat_lt from end then from ∷ met_within steps words (from + words from) end else []

-- the addresses that a walk meets from one address to before the end
abbrev pub met_from : (ℕ → ℕ) → ℕ → ℕ → List ℕ
met_from words from end = met_within (end - from) words from end

-- what a walk from one address to the end says of the addresses that it meets
pub record MeetsEach (words : ℕ → ℕ) (from end : ℕ) (addresses : List ℕ) : Type 0 where
  -- once, and upwards
  pub increasing : IsStrictlyIncreasing addresses
  -- each with all of its words before the end
  pub inside : (a : ℕ) → Contains addresses a → (from ≤ a) × (a < a + words a) × (a + words a ≤ end)
  -- no two share a word
  pub apart : (a b : ℕ) → Contains addresses a → Contains addresses b → a < b → a + words a ≤ b
  -- each word before the end is one of them
  pub covered : (word : ℕ) → from ≤ word → word < end → (a : ℕ) × Contains addresses a × (a ≤ word) × (word < a + words a)
  -- each address to which one comes is met
  pub reached : (a : ℕ) (before : List ℕ) → Walks words from a before → a < end → Contains addresses a
  -- their words are all that there are
  pub whole : from + sum_by words addresses ≡ end
  -- a walk is the only one
  pub only : met_from words from end ≡ addresses

-- What stands from one address to the end can be walked (heap parsability), as facts about each thing: the first one,
-- the one behind each, and no two in one word. `Begins a` says that a thing begins at the address a.
pub record IsParsableStretch (Begins : ℕ → Type 0) (words : ℕ → ℕ) (from end : ℕ) : Type 0 where
  pub order : from ≤ end
  pub first : from < end → Begins from
  pub next : (a : ℕ) → Begins a → from ≤ a → a + words a < end → Begins (a + words a)
  pub some : (a : ℕ) → Begins a → from ≤ a → a < end → 0 < words a
  pub inside : (a : ℕ) → Begins a → from ≤ a → a < end → a + words a ≤ end
  pub apart : (a b : ℕ) → Begins a → Begins b → from ≤ a → a < b → b < end → a + words a ≤ b

-- a walk meets what begins from one address to before the end, all of it and nothing else
pub record MeetsExactly (Begins : ℕ → Type 0) (words : ℕ → ℕ) (from end : ℕ) (addresses : List ℕ) : Type 0 where
  pub walks : Walks words from end addresses
  pub begins : (a : ℕ) → Contains addresses a → Begins a
  pub all : (a : ℕ) → Begins a → from ≤ a → a < end → Contains addresses a

-- a walk that comes to the end meets each thing once
abbrev pub WalksMeetEach : Type 0
WalksMeetEach = (words : ℕ → ℕ) (from end : ℕ) (addresses : List ℕ) → Walks words from end addresses → MeetsEach words from end addresses

-- where the heap is parsable the walk comes to the end, and meets exactly what begins there
abbrev pub ParsableIsWalked : Type 0
ParsableIsWalked =
    (begins : ℕ → Bool) (words : ℕ → ℕ) (from end : ℕ) → IsParsableStretch (λ a. IsTrue (begins a)) words from end
    → MeetsExactly (λ a. IsTrue (begins a)) words from end (met_from words from end)

-- a walk that has come so far goes on to the address behind, which is not past the end
abbrev pub WalkGoesOn : Type 0
WalkGoesOn =
    (words : ℕ → ℕ) (from reached end : ℕ) (addresses before : List ℕ) → Walks words from end addresses
    → Walks words from reached before → reached < end
    → (reached < reached + words reached) × (reached + words reached ≤ end) × Walks words from (reached + words reached) (before ++ reached ∷ [])

-- the objects that a walk meets from a region's base to its top are that region's, each with its last word too
abbrev pub WalkStaysInRegion : Type 0
WalkStaysInRegion =
    (config : Config) (heap : ℕ → ℕ) (region top : ℕ) (addresses : List ℕ) → top ≤ config.region_words
    → Walks (stride_at heap) (base_of config region) (base_of config region + top) addresses
    → (address : ℕ) → Contains addresses address
    → IsOf config region address × IsOf config region (address + stride_at heap address - 1)
