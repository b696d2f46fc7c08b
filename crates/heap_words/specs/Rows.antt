-- Which word has an index of the table, and that the words say all of a table.
use Rattle.std.specs.Prelude.{◌≡◌, ℕ, ◌+◌, ◌-◌, ◌*◌, ◌/◌, ◌%◌, ◌<◌, nat_lt, if◌then◌else◌, List, [], ◌∷◌, length}
use Rattle.heap_words.specs.Ranges.{seat_count}
use Rattle.heap_words.specs.declared.config.Config.{Config}
use Rattle.heap_words.specs.Words.{Word, Pause, Left, End, State, Phase, Cset, Free, Evac, Claim, Ask, Top, Tams, Limit, Current, Root, Count, Buffer, Wait, Answer, Grey, Black, Heap, Share, Pin, IsWord, word_at, table_words, bit_words, heap_size, view}

-- words that stand one after another: how many there are, and each by how many of them stand before it
pub record Row : Type 0 where
  pub size : ℕ
  pub word : ℕ → Word

-- a word alone
abbrev pub one : Word → Row
one word = record { size = 1; word = λ k. word }

-- so many words of one kind
abbrev pub many : ℕ → (ℕ → Word) → Row
many size word = record { size = size; word = word }

-- the rows of the table, in their order
abbrev pub rows : Config → List Row
rows config =
    one Pause ∷ one Left ∷ one End ∷ many (config.mutators + config.helpers) (λ seat. State seat)
    ∷ one Phase ∷ one Cset ∷ one Free ∷ one Evac ∷ one Claim ∷ one Ask
    ∷ many config.regions (λ region. Top region) ∷ many config.regions (λ region. Tams region) ∷ many config.regions (λ region. Limit region)
    ∷ many (seat_count config.mutators config.helpers) (λ seat. Current seat)
    ∷ many (16 * config.mutators) (λ k. Root (k / 16) (k % 16)) ∷ many config.mutators (λ mutator. Count mutator)
    ∷ many (8 * config.mutators) (λ k. Buffer (k / 8) (k % 8))
    ∷ many config.mutators (λ mutator. Wait mutator) ∷ many config.mutators (λ mutator. Answer mutator)
    ∷ many (bit_words config) (λ number. Grey number) ∷ many (bit_words config) (λ number. Black number)
    ∷ many (heap_size config) (λ k. Heap (config.region_words + k)) ∷ one Share
    ∷ many (4 * config.mutators) (λ k. Pin (k / 4) (k % 4)) ∷ []

-- the word in rows that has so many words before it; Pause behind all of them
abbrev pub word_in : List Row → ℕ → Word
word_in [] before = Pause
word_in (row ∷ later_rows) before = if nat_lt before row.size then row.word before else word_in later_rows (before - row.size)

-- the word at an index of the table
unfoldable pub name_of : Config → ℕ → Word
name_of config index = word_in (rows config) index

-- each index of the table has a word, and each word is that of its index
pub record AreNamed : Type 0 where
  pub is_word : (config : Config) (index : ℕ) → index < table_words config → IsWord config (name_of config index)
  pub there : (config : Config) (index : ℕ) → index < table_words config → word_at config (name_of config index) ≡ index
  pub back : (config : Config) (word : Word) → IsWord config word → name_of config (word_at config word) ≡ word

-- two tables in which all words read the same are one
abbrev pub AreReadWhole : Type 0
AreReadWhole = (config : Config) (table other_table : List ℕ) → length table ≡ table_words config → length other_table ≡ table_words config
    → ((word : Word) → IsWord config word → view config table word ≡ view config other_table word) → table ≡ other_table
