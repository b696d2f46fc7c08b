-- An access to a word by its name: how the row of a place says what it does.
use Rattle.std.specs.Prelude.{ℕ, ◌+◌, ◌-◌, ◌%◌, ◌^◌, ◌==◌, bit_and, bit_or, if◌then◌else◌}
use Rattle.heap_words.specs.declared.access.Access.{Access}
use Rattle.heap_words.specs.declared.access.Access.TheVariants.{Load, Store, Swap, Add, Sub, And, Or, Exchange}
use Rattle.heap_words.specs.declared.config.Config.{Config}
use Rattle.heap_words.specs.Words.{Word, word_at, write}

-- what is done to the word
pub data Form : Type 0 where
  loads : Form
  stores : (value : ℕ) → Form
  swaps : (value : ℕ) → Form
  adds : (value : ℕ) → Form
  subtracts : (value : ℕ) → Form
  keeps_bits : (value : ℕ) → Form
  sets_bits : (value : ℕ) → Form
  exchanges : (expect value : ℕ) → Form

-- a word, and what is done to it
pub record Touch : Type 0 where
  pub word : Word
  pub form : Form

abbrev pub touch : Word → Form → Touch
touch word form = record { word = word; form = form }

-- what the word is afterwards, by what it was before
abbrev pub formed : Form → ℕ → ℕ
formed loads found = found
formed (stores value) found = value
formed (swaps value) found = value
formed (adds value) found = (found + value) % 2 ^ 64
formed (subtracts value) found = (found + (2 ^ 64 - value)) % 2 ^ 64
formed (keeps_bits value) found = bit_and found value
formed (sets_bits value) found = bit_or found value
formed (exchanges expect value) found = if found == expect then value else found

-- the access that does so at an index of the table
abbrev pub access_at : ℕ → Form → Access
access_at index loads = Load index
access_at index (stores value) = Store index value
access_at index (swaps value) = Swap index value
access_at index (adds value) = Add index value
access_at index (subtracts value) = Sub index value
access_at index (keeps_bits value) = And index value
access_at index (sets_bits value) = Or index value
access_at index (exchanges expect value) = Exchange index expect value

-- the access of the table
abbrev pub placed : Config → Touch → Access
placed config touch = access_at (word_at config touch.word) touch.form

-- a memory after the access
abbrev pub touched : (Word → ℕ) → Touch → Word → ℕ
touched memory touch = write memory touch.word (formed touch.form (memory touch.word))
