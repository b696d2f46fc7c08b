-- The graph of a text, and of how many objects each thread has made.
use Rattle.std.specs.Prelude.{ℕ, ◌≡◌, ◌+◌, ◌<◌, List, [], ◌∷◌, length, Some, None, slice_index}
use Rattle.heap_words.specs.declared.config.Config.{Config}
use Rattle.shen_graph.specs.declared.name.Name.{Name}
use Rattle.shen_graph.specs.Graph.{Graph, Object}
use Rattle.shen_graph.specs.GraphText.{Text, Row, row_of, root_of}
use Rattle.shen_graph.specs.PlainGraph.{graph_of}
use Rattle.heap_world.specs.Roots.{HasNoMoreRoots}
use Rattle.heap_world.specs.World.{IsGiven}

-- the object of a row
abbrev pub row_object : Row → Object
row_object row = record { refs = row.refs; nums = row.nums }

-- A graph has the objects of the text, and maybe others; the text's roots, and no others; these counts; and nothing pinned. Its names are given.
pub record IsGraphOf (config : Config) (text : Text) (counts : List ℕ) (graph : Graph) : Type 0 where
  pub objects : (row : ℕ) → row < length text.rows → graph.object (row_of text row).name ≡ Some (row_object (row_of text row))
  pub roots : (mutator index : ℕ) → mutator < config.mutators → index < 16 → graph.root (mutator + 1) index ≡ root_of text (mutator + 1) index
  pub no_more : HasNoMoreRoots config.mutators graph
  pub no_pins : (thread slot : ℕ) → graph.pin thread slot ≡ None
  pub counts_are : (mutator : ℕ) → mutator < config.mutators → graph.count (mutator + 1) ≡ slice_index counts mutator
  pub given : (name : Name) (object : Object) → graph.object name ≡ Some object → IsGiven config graph.count name

-- the graph of the text's objects and roots, and of these counts; thread 0 has no root and made nothing, and nothing is pinned
abbrev pub text_graph : Text → List ℕ → Graph
text_graph text counts = graph_of (record { rows = text.rows; roots = [] ∷ text.roots; counts = 0 ∷ counts; pins = [] })

-- the name of each row is given, by these counts
abbrev pub AreGiven : Config → Text → List ℕ → Type 0
AreGiven config text counts = (index : ℕ) → index < length text.rows → IsGiven config (text_graph text counts).count (row_of text index).name
