-- Texts that a heap can begin from.
use Rattle.std.specs.Prelude.{ℕ, ◌≡◌, ◌<◌, ◌≤◌, length, Some, All, Contains, slice_get}
use Rattle.heap_words.specs.declared.config.Config.{Config}
use Rattle.shen_graph.specs.declared.name.Name.{Name}
use Rattle.shen_graph.specs.Reach.{InOrder}
use Rattle.shen_graph.specs.GraphText.{Text, Row, row_of, names_of, root_of}

-- an object has at most 16 references and 16 numbers
pub record IsShort (row : Row) : Type 0 where
  pub refs : length row.refs ≤ 16
  pub nums : length row.nums ≤ 16

-- The text has 16 roots for each mutator. Its rows are in the order of names, and each has few fields; what a reference or a root names has a row.
pub record IsPlaceable (config : Config) (text : Text) : Type 0 where
  pub threads : length text.roots ≡ config.mutators
  pub sixteen : All (λ roots. length roots ≡ 16) text.roots
  pub in_order : InOrder (names_of text)
  pub short : (row : ℕ) → row < length text.rows → IsShort (row_of text row)
  pub references : (row index : ℕ) (name : Name) → row < length text.rows → slice_get (row_of text row).refs index ≡ Some (Some name) → Contains (names_of text) name
  pub roots : (thread index : ℕ) (name : Name) → 1 ≤ thread → thread ≤ config.mutators → index < 16 → root_of text thread index ≡ Some name → Contains (names_of text) name
