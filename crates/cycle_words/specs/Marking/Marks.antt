-- The mark bits of addresses: what is grey, what is black, and what marking keeps.
use Rattle.std.specs.Prelude.{ℕ, ◌≡◌, ◌+◌, ◌*◌, ◌^◌, ◌⊎◌, ◌==◌, ◌&&◌, nat_le, if◌then◌else◌, Bool, true, zero, suc}
use Rattle.std.specs.Int.{bit_at}
use Rattle.heap_words.specs.declared.config.Config.{Config}
use Rattle.heap_words.specs.Words.{Word, Tams, Grey, Black}
use Rattle.regions.specs.Marks.{mark_word, mark_bit}
use Rattle.heap_world.specs.World.{IsYoung}

-- an address is grey: it was found by marking. Grey and not black, it has still to be scanned.
abbrev pub is_grey : Config → (Word → ℕ) → ℕ → Bool
is_grey config memory address = nat_le config.region_words address && (bit_at (memory (Grey (mark_word config address))) (mark_bit config address) == 1)

-- an address is black: what begins there is marked
abbrev pub is_black : Config → (Word → ℕ) → ℕ → Bool
is_black config memory address = nat_le config.region_words address && (bit_at (memory (Black (mark_word config address))) (mark_bit config address) == 1)

-- an address is at or above the top at mark start of its region: what begins there was allocated since
abbrev pub IsNew : Config → (Word → ℕ) → ℕ → Type 0
IsNew config memory = IsYoung config (λ region. memory (Tams region))

-- marking keeps what is marked and what is new
abbrev pub IsKept : Config → (Word → ℕ) → ℕ → Type 0
IsKept config memory address = (is_black config memory address ≡ true) ⊎ IsNew config memory address

-- the number whose bits below a number are 1 where a test holds of their addresses, which are counted from a first one on
unfoldable pub bits_of : (ℕ → Bool) → (first : ℕ) → ℕ → ℕ
bits_of test first zero = 0
bits_of test first (suc bit) = (if test (first + bit) then 1 else 0) * 2 ^ bit + bits_of test first bit

-- the mark bits of a set of addresses, by the number of the word
abbrev pub mark_bits : Config → (ℕ → Bool) → ℕ → ℕ
mark_bits config set number = bits_of set (config.region_words + 64 * number) 64
