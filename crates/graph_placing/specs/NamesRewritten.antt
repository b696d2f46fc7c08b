-- The words of the heap while the names of its objects are written anew, step by step.
use Rattle.std.specs.Prelude.{ℕ, ◌+◌, zero, suc}
use Rattle.heap_words.specs.declared.config.Config.{Config}
use Rattle.heap_words.specs.Words.{Word, Heap, write}
use Rattle.heap_words.specs.Encoding.{name_code}
use Rattle.shen_graph.specs.GraphText.{Text, row_of, names_of}
use Rattle.graph_placing.specs.ByName.{address_of}
use Rattle.graph_placing.specs.NamesAnew.{earlier_names}

-- the words after the names of the first so many rows were written anew
unfoldable pub names_written : Config → Text → ℕ → (Word → ℕ) → Word → ℕ
names_written config text zero memory word = memory word
names_written config text (suc index) memory word =
    write (names_written config text index memory) (Heap (address_of config text index + 2)) (name_code (row_of text index).name.thread (earlier_names (names_of text) (row_of text index).name + 1)) word
