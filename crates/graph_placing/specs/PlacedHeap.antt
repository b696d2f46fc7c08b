-- The words of a heap in which the objects of a text were placed, and nothing else has happened yet.
use Rattle.std.specs.Prelude.{ℕ, ◌≡◌, ◌≢◌, ◌+◌, ◌<◌, Bool, true, false, List, [], ◌∷◌, ◌++◌, map, length, Some, None, slice_index, if◌then◌else◌, suc}
use Rattle.heap_words.specs.declared.config.Config.{Config}
use Rattle.heap_words.specs.Words.{Word, Left, Free, Top, Root, Heap}
use Rattle.heap_words.specs.Encoding.{plain_header, shape_word, name_code}
use Rattle.shen_graph.specs.declared.name.Name.{Name}
use Rattle.shen_graph.specs.Graph.{Reference, same_name}
use Rattle.shen_graph.specs.GraphText.{Text, Row, row_of, names_of, root_of}
use Rattle.image_graph.specs.Full.{empty_regions}
use Rattle.graph_placing.specs.ByName.{words_of_row, address_of, used_words}

-- the number of the first of some names that is this one
abbrev pub place_among : List Name → Name → ℕ
place_among [] name = 0
place_among (other_name ∷ names) name = if same_name other_name name then 0 else suc (place_among names name)

-- the word of a reference: 0 for null, and else the address of the object of that name
abbrev pub word_for : Config → Text → Reference → ℕ
word_for config text None = 0
word_for config text (Some name) = address_of config text (place_among (names_of text) name)

-- the words of a row's object, by what the word of each reference is
abbrev pub words_of_object : (Reference → ℕ) → Row → List ℕ
words_of_object word row = plain_header ∷ shape_word (length row.refs) (length row.nums) ∷ name_code row.name.thread row.name.count ∷ map word row.refs ++ row.nums

-- words that say what the heap has in it; all others are 0 while nothing has happened
abbrev pub is_content : Word → Bool
is_content Left = true
is_content Free = true
is_content (Top region) = true
is_content (Root mutator index) = true
is_content (Heap address) = true
is_content _ = false

-- Each object stands at its address, and other words of the heap are 0. A region's top is how much of it is used, and a region is free
-- where nothing is. Roots are those of the text. No mutator has ended, and no other word says anything.
pub record IsPlaced (config : Config) (text : Text) (memory : Word → ℕ) : Type 0 where
  pub objects : (row index : ℕ) → row < length text.rows → index < words_of_row text row → memory (Heap (address_of config text row + index)) ≡ slice_index (words_of_object (word_for config text) (row_of text row)) index
  pub unused : (address : ℕ) → ((row index : ℕ) → row < length text.rows → index < words_of_row text row → address ≢ address_of config text row + index) → memory (Heap address) ≡ 0
  pub tops : (region : ℕ) → memory (Top region) ≡ used_words config text (length text.rows) region
  pub free : memory Free ≡ empty_regions (λ region. memory (Top region)) config.regions
  pub roots : (mutator index : ℕ) → mutator < config.mutators → index < 16 → memory (Root mutator index) ≡ word_for config text (root_of text (mutator + 1) index)
  pub left : memory Left ≡ config.mutators
  pub others : (word : Word) → is_content word ≡ false → memory word ≡ 0
