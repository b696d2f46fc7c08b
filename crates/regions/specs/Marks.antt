-- Marks: each word of the heap has a bit in the words of grey bits, and one in the words of black bits. An object's mark is
-- that of its address.
use Rattle.std.specs.Prelude.{ℕ, ◌≡◌, ◌+◌, ◌-◌, ◌*◌, ◌/◌, ◌%◌, ◌^◌, ◌<◌, ◌==◌, ◌⊎◌, bit_or, if◌then◌else◌}
use Rattle.std.specs.Int.{bit_at, w64, trailing_zeros}
use Rattle.heap_words.specs.declared.config.Config.{Config}
use Rattle.heap_words.specs.Words.{Heap, Grey, IsWord}

-- the word of marks that has the bit of an address, counted from 0
abbrev pub mark_word : Config → ℕ → ℕ
mark_word config address = (address - config.region_words) / 64

-- which bit of that word it is, counted from 0
abbrev pub mark_bit : Config → ℕ → ℕ
mark_bit config address = (address - config.region_words) % 64

-- the word in which this bit alone is set
abbrev pub mark_mask : Config → ℕ → ℕ
mark_mask config address = 1 * 2 ^ mark_bit config address % 2 ^ 64

-- the address that has a bit of a word
abbrev pub address_at : Config → ℕ → ℕ → ℕ
address_at config word bit = config.region_words + 64 * word + bit

-- the address of the lowest bit that is set in a word
abbrev pub lowest_address : Config → ℕ → ℕ → ℕ
lowest_address config word bits = address_at config word (trailing_zeros w64 bits)

-- whether an address is marked, as a number, by the words of marks
abbrev pub mark_at : Config → (ℕ → ℕ) → ℕ → ℕ
mark_at config marks address = bit_at (marks (mark_word config address)) (mark_bit config address)

-- the address is marked
abbrev pub HasMark : Config → (ℕ → ℕ) → ℕ → Type 0
HasMark config marks address = mark_at config marks address ≡ 1

-- the words of marks once an address has been marked
abbrev pub with_mark : Config → (ℕ → ℕ) → ℕ → ℕ → ℕ
with_mark config marks address word = if mark_word config address == word then bit_or (marks (mark_word config address)) (mark_mask config address) else marks word

-- each address of the heap has a bit of its own, and a mark that is set marks its address and no other
pub record MarksAreApart : Type 0 where
  pub inside : (config : Config) (address : ℕ) → IsWord config (Heap address) → IsWord config (Grey (mark_word config address))
  pub back : (config : Config) (address : ℕ) → IsWord config (Heap address) → address_at config (mark_word config address) (mark_bit config address) ≡ address
  pub word : (config : Config) (word bit : ℕ) → bit < 64 → mark_word config (address_at config word bit) ≡ word
  pub bit : (config : Config) (word bit : ℕ) → bit < 64 → mark_bit config (address_at config word bit) ≡ bit
  pub marked : (config : Config) (marks : ℕ → ℕ) (address : ℕ) → HasMark config (with_mark config marks address) address
  pub stays : (config : Config) (marks : ℕ → ℕ) (address other : ℕ) → HasMark config marks other → HasMark config (with_mark config marks address) other
  pub no_more : (config : Config) (marks : ℕ → ℕ) (address other : ℕ) → IsWord config (Heap address) → IsWord config (Heap other)
      → HasMark config (with_mark config marks address) other → (other ≡ address) ⊎ HasMark config marks other
