-- The words of the heap while a text is placed, step by step.
use Rattle.std.specs.Prelude.{ℕ, ◌≡◌, ◌+◌, ◌-◌, ◌<◌, ◌==◌, ◌&&◌, nat_le, nat_lt, if◌then◌else◌, List, length, slice_index, zero, suc}
use Rattle.heap_words.specs.declared.config.Config.{Config}
use Rattle.heap_words.specs.Words.{Word, Left, Free, Top, Root, Heap, write}
use Rattle.regions.specs.Place.{base_of, region_with}
use Rattle.shen_graph.specs.GraphText.{Text, row_of, root_of}
use Rattle.image_graph.specs.Full.{empty_regions}
use Rattle.graph_placing.specs.ByName.{words_of_row, address_of, used_words}
use Rattle.graph_placing.specs.PlacedHeap.{word_for, words_of_object}

-- the addresses of the objects, by row
pub record AreAddresses (config : Config) (text : Text) (addresses : List ℕ) : Type 0 where
  pub count : length addresses ≡ length text.rows
  pub each : (index : ℕ) → index < length text.rows → slice_index addresses index ≡ address_of config text index

-- the words after the first so many of a list were written from an address on
abbrev pub copied : (address words : ℕ) → List ℕ → (Word → ℕ) → Word → ℕ
copied address words list memory (Heap asked_address) = if nat_le address asked_address && nat_lt asked_address (address + words) then slice_index list (asked_address - address) else memory (Heap asked_address)
copied address words list memory word = memory word

-- the words after the top of a row's region was raised to where the row's object ends
abbrev pub with_top : Config → Text → ℕ → (Word → ℕ) → Word → ℕ
with_top config text index memory = write memory (Top (region_with config (address_of config text index))) (address_of config text index + words_of_row text index - base_of config (region_with config (address_of config text index)))

-- the words after the objects of the first so many rows were placed
unfoldable pub rows_placed : Config → Text → ℕ → Word → ℕ
rows_placed config text zero word = 0
rows_placed config text (suc index) (Heap address) = copied (address_of config text index) (words_of_row text index) (words_of_object (word_for config text) (row_of text index)) (rows_placed config text index) (Heap address)
rows_placed config text (suc index) (Top region) = used_words config text (suc index) region
rows_placed config text (suc index) word = rows_placed config text index word

-- the words after the first so many roots of a mutator were stored
abbrev pub roots_stored : Config → Text → (mutator roots : ℕ) → (Word → ℕ) → Word → ℕ
roots_stored config text mutator roots memory (Root asked_mutator index) = if (asked_mutator == mutator) && nat_lt index roots then word_for config text (root_of text (asked_mutator + 1) index) else memory (Root asked_mutator index)
roots_stored config text mutator roots memory word = memory word

-- the words after the roots of so many mutators were stored
abbrev pub all_roots_stored : Config → Text → (mutators : ℕ) → (Word → ℕ) → Word → ℕ
all_roots_stored config text mutators memory (Root mutator index) = if nat_lt mutator mutators && nat_lt index 16 then word_for config text (root_of text (mutator + 1) index) else memory (Root mutator index)
all_roots_stored config text mutators memory word = memory word

-- the words when all is placed
abbrev pub all_placed : Config → Text → Word → ℕ
all_placed config text Left = config.mutators
all_placed config text Free = empty_regions (λ region. rows_placed config text (length text.rows) (Top region)) config.regions
all_placed config text (Root mutator index) = if nat_lt mutator config.mutators && nat_lt index 16 then word_for config text (root_of text (mutator + 1) index) else 0
all_placed config text word = rows_placed config text (length text.rows) word
