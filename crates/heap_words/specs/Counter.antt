-- The word that counts the copiers. Its highest bit, bit 63, says that a copier found no room; the bits below it count.
use Rattle.std.specs.Prelude.{◌≡◌, ℕ, ◌+◌, ◌-◌, ◌%◌, ◌^◌, Bool, true, nat_le}

-- how many copiers the word counts
abbrev pub count_of : ℕ → ℕ
count_of word = word % 2 ^ 63

-- whether a copier found no room: bit 63 of the word
abbrev pub is_out_of_room : ℕ → Bool
is_out_of_room word = nat_le (2 ^ 63) word

-- the word with bit 63 set, and one copier less
abbrev pub marked : ℕ → ℕ
marked word = 2 ^ 63 + count_of word - 1

-- a copier found no room, and nobody copies any more
pub record IsQuiet (word : ℕ) : Type 0 where
  pub out_of_room : is_out_of_room word ≡ true
  pub nobody : count_of word ≡ 0
