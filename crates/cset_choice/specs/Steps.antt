-- What the steps of copying make of the words of an image.
use Rattle.std.specs.Prelude.{ℕ, ◌+◌, ◌-◌, ◌&&◌, nat_le, nat_lt, if◌then◌else◌}
use Rattle.heap_words.specs.Words.{Word, Heap}

-- so many words were copied from one address to another
abbrev pub words_copied : (from to words : ℕ) → (Word → ℕ) → Word → ℕ
words_copied from to words memory (Heap address) = if nat_le to address && nat_lt address (to + words) then memory (Heap (from + (address - to))) else memory (Heap address)
words_copied from to words memory word = memory word
