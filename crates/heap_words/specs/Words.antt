-- The names of the words of the table, and where each one stands.
use Rattle.std.specs.Prelude.{◌≡◌, ℕ, ◌+◌, ◌-◌, ◌*◌, ◌/◌, ◌<◌, ◌≤◌, ◌==◌, ◌&&◌, nat_lt, nat_le, Bool, true, false, if◌then◌else◌, List, length, slice_index, slice_set, slice_range, ⊤}
use Rattle.heap_words.specs.Ranges.{seat_count}
use Rattle.heap_words.specs.declared.config.Config.{Config}

-- a word by what it is for; mutators, seats and regions are counted from 0
pub data Word : Type 0 where
  Pause : Word
  Left : Word
  End : Word
  State : (seat : ℕ) → Word
  Phase : Word
  Cset : Word
  Free : Word
  Evac : Word
  Claim : Word
  Ask : Word
  Top : (region : ℕ) → Word
  Tams : (region : ℕ) → Word
  Limit : (region : ℕ) → Word
  Current : (seat : ℕ) → Word
  Root : (mutator index : ℕ) → Word
  Count : (mutator : ℕ) → Word
  Buffer : (mutator entry : ℕ) → Word
  Wait : (mutator : ℕ) → Word
  Answer : (mutator : ℕ) → Word
  Grey : (number : ℕ) → Word
  Black : (number : ℕ) → Word
  Heap : (address : ℕ) → Word
  Share : Word
  Pin : (mutator slot : ℕ) → Word

-- whether two names are one
abbrev pub same_word : Word → Word → Bool
same_word Pause Pause = true
same_word Left Left = true
same_word End End = true
same_word (State seat) (State other_seat) = seat == other_seat
same_word Phase Phase = true
same_word Cset Cset = true
same_word Free Free = true
same_word Evac Evac = true
same_word Claim Claim = true
same_word Ask Ask = true
same_word (Top region) (Top other_region) = region == other_region
same_word (Tams region) (Tams other_region) = region == other_region
same_word (Limit region) (Limit other_region) = region == other_region
same_word (Current seat) (Current other_seat) = seat == other_seat
same_word (Root mutator index) (Root other_mutator other_index) = (mutator == other_mutator) && (index == other_index)
same_word (Count mutator) (Count other_mutator) = mutator == other_mutator
same_word (Buffer mutator entry) (Buffer other_mutator other_entry) = (mutator == other_mutator) && (entry == other_entry)
same_word (Wait mutator) (Wait other_mutator) = mutator == other_mutator
same_word (Answer mutator) (Answer other_mutator) = mutator == other_mutator
same_word (Grey number) (Grey other_number) = number == other_number
same_word (Black number) (Black other_number) = number == other_number
same_word (Heap address) (Heap other_address) = address == other_address
same_word Share Share = true
same_word (Pin mutator slot) (Pin other_mutator other_slot) = (mutator == other_mutator) && (slot == other_slot)
same_word _ _ = false

-- the words of the heap
abbrev pub heap_size : Config → ℕ
heap_size config = config.regions * config.region_words

-- the words that have one bit for each word of the heap
abbrev pub bit_words : Config → ℕ
bit_words config = (heap_size config + 63) / 64

-- where the image begins: all that a pause may change stands from here on
abbrev pub image_start : Config → ℕ
image_start config = 3 + config.mutators + config.helpers

-- where the words of the mutators begin
abbrev pub roots_start : Config → ℕ
roots_start config = image_start config + 7 + 3 * config.regions + config.mutators + config.helpers

-- where the grey words begin
abbrev pub marks_start : Config → ℕ
marks_start config = roots_start config + 27 * config.mutators

-- where the heap begins
abbrev pub heap_start : Config → ℕ
heap_start config = marks_start config + 2 * bit_words config

-- where the pin slots begin, behind the heap and the word of the shared region
abbrev pub pins_start : Config → ℕ
pins_start config = heap_start config + heap_size config + 1

-- the words of the table
abbrev pub table_words : Config → ℕ
table_words config = pins_start config + 4 * config.mutators

-- the words of the heap in a table, from the first address on
abbrev pub heap_in : Config → List ℕ → List ℕ
heap_in config words = slice_range words (heap_start config) (heap_start config + heap_size config)

-- the words of the roots in a table, 16 for each mutator
abbrev pub roots_in : Config → List ℕ → List ℕ
roots_in config words = slice_range words (roots_start config) (roots_start config + 16 * config.mutators)

-- the words of the pin slots in a table, 4 for each mutator
abbrev pub pins_in : Config → List ℕ → List ℕ
pins_in config words = slice_range words (pins_start config) (pins_start config + 4 * config.mutators)

-- where a word stands
abbrev pub word_at : Config → Word → ℕ
word_at config Pause = 0
word_at config Left = 1
word_at config End = 2
word_at config (State seat) = 3 + seat
word_at config Phase = image_start config
word_at config Cset = image_start config + 1
word_at config Free = image_start config + 2
word_at config Evac = image_start config + 3
word_at config Claim = image_start config + 4
word_at config Ask = image_start config + 5
word_at config (Top region) = image_start config + 6 + region
word_at config (Tams region) = image_start config + 6 + config.regions + region
word_at config (Limit region) = image_start config + 6 + 2 * config.regions + region
word_at config (Current seat) = image_start config + 6 + 3 * config.regions + seat
word_at config (Root mutator index) = roots_start config + 16 * mutator + index
word_at config (Count mutator) = roots_start config + 16 * config.mutators + mutator
word_at config (Buffer mutator entry) = roots_start config + 17 * config.mutators + 8 * mutator + entry
word_at config (Wait mutator) = roots_start config + 25 * config.mutators + mutator
word_at config (Answer mutator) = roots_start config + 26 * config.mutators + mutator
word_at config (Grey number) = marks_start config + number
word_at config (Black number) = marks_start config + bit_words config + number
word_at config (Heap address) = heap_start config + address - config.region_words
word_at config Share = heap_start config + heap_size config
word_at config (Pin mutator slot) = pins_start config + 4 * mutator + slot

-- the numbers of a name are in range: there is such a word
abbrev pub IsWord : Config → Word → Type 0
IsWord config (State seat) = seat < config.mutators + config.helpers
IsWord config (Top region) = region < config.regions
IsWord config (Tams region) = region < config.regions
IsWord config (Limit region) = region < config.regions
IsWord config (Current seat) = seat < seat_count config.mutators config.helpers
IsWord config (Root mutator index) = (mutator < config.mutators) × (index < 16)
IsWord config (Count mutator) = mutator < config.mutators
IsWord config (Buffer mutator entry) = (mutator < config.mutators) × (entry < 8)
IsWord config (Wait mutator) = mutator < config.mutators
IsWord config (Answer mutator) = mutator < config.mutators
IsWord config (Grey number) = number < bit_words config
IsWord config (Black number) = number < bit_words config
IsWord config (Heap address) = (config.region_words ≤ address) × (address < (config.regions + 1) * config.region_words)
IsWord config (Pin mutator slot) = (mutator < config.mutators) × (slot < 4)
IsWord config _ = ⊤

-- whether there is such a word
abbrev pub is_word : Config → Word → Bool
is_word config (State seat) = nat_lt seat (config.mutators + config.helpers)
is_word config (Top region) = nat_lt region config.regions
is_word config (Tams region) = nat_lt region config.regions
is_word config (Limit region) = nat_lt region config.regions
is_word config (Current seat) = nat_lt seat (seat_count config.mutators config.helpers)
is_word config (Root mutator index) = nat_lt mutator config.mutators && nat_lt index 16
is_word config (Count mutator) = nat_lt mutator config.mutators
is_word config (Buffer mutator entry) = nat_lt mutator config.mutators && nat_lt entry 8
is_word config (Wait mutator) = nat_lt mutator config.mutators
is_word config (Answer mutator) = nat_lt mutator config.mutators
is_word config (Grey number) = nat_lt number (bit_words config)
is_word config (Black number) = nat_lt number (bit_words config)
is_word config (Heap address) = nat_le config.region_words address && nat_lt address ((config.regions + 1) * config.region_words)
is_word config (Pin mutator slot) = nat_lt mutator config.mutators && nat_lt slot 4
is_word config _ = true

-- a table as a memory: what each name reads, 0 where there is no such word
abbrev pub view : Config → List ℕ → Word → ℕ
view config words word = if is_word config word then slice_index words (word_at config word) else 0

-- a memory after a number was written at a name
abbrev pub write : (Word → ℕ) → Word → ℕ → Word → ℕ
write memory target value word = if same_word target word then value else memory word

-- whether a word is of the image: those that a pause reads and may change
abbrev pub is_image : Word → Bool
is_image Pause = false
is_image Left = false
is_image End = false
is_image (State seat) = false
is_image _ = true

-- each word stands in the table, two names never have one index, and the image is the end of the table
pub record AreApart : Type 0 where
  pub inside : (config : Config) (word : Word)
      → IsWord config word → word_at config word < table_words config
  pub apart : (config : Config) (one other : Word)
      → IsWord config one → IsWord config other → word_at config one ≡ word_at config other → one ≡ other
  pub image : (config : Config) (word : Word)
      → IsWord config word → is_image word ≡ nat_le (image_start config) (word_at config word)

-- a number that is stored at a word's index is stored at its name, and at no other
pub record IsStoreOfOne : Type 0 where
  pub read : (config : Config) (words : List ℕ) (word : Word)
      → IsWord config word → view config words word ≡ slice_index words (word_at config word)
  pub stored : (config : Config) (words : List ℕ) (at : Word) (value : ℕ) (word : Word)
      → length words ≡ table_words config → IsWord config at
      → view config (slice_set words (word_at config at) value) word ≡ write (view config words) at value word
