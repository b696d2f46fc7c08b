-- The rows of a text that its roots lead to, as marks.
use Rattle.std.specs.Prelude.{ℕ, ◌≡◌, ◌<◌, ◌≤◌, Bool, true, false, List, [], ◌∷◌, length, Some, slice_index, slice_index_or, slice_get, nat_eq, Contains, if◌then◌else◌}
use Rattle.std.specs.List.{IsDistinct}
use Rattle.shen_graph.specs.declared.name.Name.{Name}
use Rattle.shen_graph.specs.Graph.{Graph, Reference}
use Rattle.shen_graph.specs.GraphText.{Row, Text, names_of, row_of}
use Rattle.shen_graph.specs.PlainGraph.{graph_of}
use Rattle.shen_graph.specs.Reach.{IsReachable}

-- the graph of a text without its pin slots, whose threads are counted from 1, and made nothing that is told
abbrev pub graph_from : Text → Graph
graph_from text = graph_of (record { rows = text.rows; roots = [] ∷ text.roots; counts = []; pins = [] })

-- the roots lead to what the reference names
abbrev pub RootsLeadTo : Text → Reference → Type 0
RootsLeadTo text reference = (name : Name) → reference ≡ Some name → IsReachable (graph_from text) name

abbrev pub is_marked : List Bool → ℕ → Bool
is_marked marks row = slice_index_or marks row false

-- the reference is null, or names a row that is marked
abbrev pub IsReachMarked : Text → List Bool → Reference → Type 0
IsReachMarked text marks reference = (name : Name) → reference ≡ Some name → (row : ℕ) × (row < length text.rows) × ((row_of text row).name ≡ name) × (is_marked marks row ≡ true)

abbrev pub AreMarked : Text → List Bool → List Reference → Type 0
AreMarked text marks refs = (field : ℕ) (reference : Reference) → slice_get refs field ≡ Some reference → IsReachMarked text marks reference

-- what rows with a mark refer to is marked
abbrev pub IsClosed : Text → List Bool → Type 0
IsClosed text marks = (row : ℕ) → row < length text.rows → is_marked marks row ≡ true → AreMarked text marks (row_of text row).refs

-- each mark is there still, and what the list had it has at the same places
pub record Grows (marks : List Bool) (order : List ℕ) (more : List Bool) (longer : List ℕ) : Type 0 where
  pub kept : (row : ℕ) → is_marked marks row ≡ true → is_marked more row ≡ true
  pub same : (index : ℕ) → index < length order → slice_index longer index ≡ slice_index order index
  pub long : length order ≤ length longer

-- Rows with a mark are reached, and the list has each of them.
pub record RowsAreReached (text : Text) (marks : List Bool) (order : List ℕ) : Type 0 where
  pub size : length marks ≡ length text.rows
  pub once : IsDistinct nat_eq order
  pub listed : (row : ℕ) → is_marked marks row ≡ true → Contains order row
  pub marked : (row : ℕ) → Contains order row → (row < length text.rows) × (is_marked marks row ≡ true)
  pub led : (row : ℕ) → is_marked marks row ≡ true → IsReachable (graph_from text) (row_of text row).name

-- a name to which the roots lead has no row
abbrev pub Lacks : Text → Type 0
Lacks text = (name : Name) × IsReachable (graph_from text) name × (Contains (names_of text) name → ⊥)

-- The mark of each row says whether the roots lead to its object, and each name to which they lead has a row.
pub record MarksReached (text : Text) (marks : List Bool) : Type 0 where
  pub size : length marks ≡ length text.rows
  pub led : (row : ℕ) → is_marked marks row ≡ true → IsReachable (graph_from text) (row_of text row).name
  pub all : (name : Name) → IsReachable (graph_from text) name → IsReachMarked text marks (Some name)

-- the rows with a mark, in their order
abbrev pub marked_rows : List Bool → List Row → List Row
marked_rows [] rows = []
marked_rows (mark ∷ marks) [] = []
marked_rows (mark ∷ marks) (row ∷ rows) = if mark then row ∷ marked_rows marks rows else marked_rows marks rows
