-- When the words of an image are laid out as objects that begin at given addresses, with roots and requests.
use Rattle.std.specs.Prelude.{ℕ, true, ◌≡◌, ◌≢◌, ◌+◌, ◌*◌, ◌<◌, ◌≤◌, ◌^◌, None, List, length, slice_index}
use Rattle.heap_words.specs.declared.config.Config.{Config}
use Rattle.heap_words.specs.Ranges.{seat_count}
use Rattle.heap_words.specs.Words.{Word, Cset, Free, Top, Current, Root, Wait, Answer, Heap, Share, Pin}
use Rattle.heap_words.specs.Encoding.{plain_header, refs_in, nums_in, object_words, shape_word, thread_in, count_in, request_count_in, request_shape_in}
use Rattle.regions.specs.Place.{base_of, region_with}
use Rattle.regions.specs.Sets.{IsIn}
use Rattle.heap_world.specs.Walk.{has}
use Rattle.heap_world.specs.World.{ShareIsOpen}

-- how many words the object at an address has
abbrev pub laid_words : (Word → ℕ) → ℕ → ℕ
laid_words memory address = object_words (memory (Heap (address + 1)))

-- where the part in use ends of the region that an address is of
abbrev pub used_end : Config → (Word → ℕ) → ℕ → ℕ
used_end config memory address = base_of config (region_with config address) + memory (Top (region_with config address))

-- a word is null or the address of an object
abbrev pub IsReference : List ℕ → ℕ → Type 0
IsReference objects word = word ≢ 0 → has objects word ≡ true

-- an object lies in the part in use of one region, up to its top or to the next object
pub record LiesRight (config : Config) (memory : Word → ℕ) (objects : List ℕ) (a : ℕ) : Type 0 where
  pub above : config.region_words ≤ a
  pub below : a + 3 ≤ (config.regions + 1) * config.region_words
  pub to_top : a + laid_words memory a ≤ used_end config memory a
  pub next : a + laid_words memory a ≢ used_end config memory a → has objects (a + laid_words memory a) ≡ true

-- a name has a thread of the heap, or 0, and its count is below what the thread asks for
pub record IsNamedRight (config : Config) (memory : Word → ℕ) (name : ℕ) : Type 0 where
  pub thread : thread_in name ≤ config.mutators
  pub unasked : (mutator : ℕ) → mutator < config.mutators → thread_in name ≡ mutator + 1 → memory (Wait mutator) ≢ 0 → count_in name < request_count_in (memory (Wait mutator))

-- a shape word is one of few references and few numbers
pub record IsShape (shape : ℕ) : Type 0 where
  pub few_refs : refs_in shape ≤ 16
  pub few_nums : nums_in shape ≤ 16
  pub whole : shape ≡ shape_word (refs_in shape) (nums_in shape)

-- its words are a plain header, a shape, a name, and references
pub record ReadsRight (config : Config) (memory : Word → ℕ) (objects : List ℕ) (address : ℕ) : Type 0 where
  pub header : memory (Heap address) ≡ plain_header
  pub shape : IsShape (memory (Heap (address + 1)))
  pub name : IsNamedRight config memory (memory (Heap (address + 2)))
  pub fields : (i : ℕ) → i < refs_in (memory (Heap (address + 1))) → IsReference objects (memory (Heap (address + 3 + i)))

-- objects are in the order of their addresses and of their names, and no two share a word
pub record AreInOrder (memory : Word → ℕ) (objects : List ℕ) : Type 0 where
  pub apart : (index : ℕ) → index + 1 < length objects → slice_index objects index + laid_words memory (slice_index objects index) ≤ slice_index objects (index + 1)
  pub named : (index : ℕ) → index + 1 < length objects → memory (Heap (slice_index objects index + 2)) < memory (Heap (slice_index objects (index + 1) + 2))

-- a region has no more words in use than it has, and an object at its base if it has some; a free one has none
pub record IsRegionRight (config : Config) (memory : Word → ℕ) (objects : List ℕ) (region : ℕ) : Type 0 where
  pub within : memory (Top region) ≤ config.region_words
  pub first : 0 < memory (Top region) → has objects (base_of config region) ≡ true
  pub empty : IsIn (memory Free) region → memory (Top region) ≡ 0

-- a request is for an object that can be, and not answered
pub record IsAskedRight (memory : Word → ℕ) (mutator : ℕ) : Type 0 where
  pub shape : IsShape (request_shape_in (memory (Wait mutator)))
  pub counted : 0 < request_count_in (memory (Wait mutator))
  pub unanswered : memory (Answer mutator) ≡ 0

-- the roots of a mutator are references, its pin slots are empty, and nothing was made for it
pub record IsMutatorRight (memory : Word → ℕ) (objects : List ℕ) (mutator : ℕ) : Type 0 where
  pub roots : (index : ℕ) → index < 16 → IsReference objects (memory (Root mutator index))
  pub pins : (index : ℕ) → index < 4 → memory (Pin mutator index) ≡ 0
  pub answer : memory (Answer mutator) ≤ 1
  pub asked : memory (Wait mutator) ≢ 0 → IsAskedRight memory mutator

-- All of it is so. No seat has a buffer, and the region that is shared, if one is, may be carved.
pub record IsLaidOut (config : Config) (memory : Word → ℕ) (objects : List ℕ) : Type 0 where
  pub regions : (region : ℕ) → region < config.regions → IsRegionRight config memory objects region
  pub free : memory Free < 2 ^ config.regions
  pub unbuffered : (seat : ℕ) → seat < seat_count config.mutators config.helpers → memory (Current seat) ≡ 0
  pub shared_one : ShareIsOpen config (memory Share) (memory Free) (memory Cset) (λ region. None)
  pub order : AreInOrder memory objects
  pub lies : (index : ℕ) → index < length objects → LiesRight config memory objects (slice_index objects index)
  pub reads : (index : ℕ) → index < length objects → ReadsRight config memory objects (slice_index objects index)
  pub mutators : (mutator : ℕ) → mutator < config.mutators → IsMutatorRight memory objects mutator
