-- The plain graph in memory, and the graph that it is.
use Rattle.std.specs.Prelude.{ℕ, ◌-◌, ◌==◌, Bool, true, false, not, List, [], ◌∷◌, length, position, Option, Some, None, option_and_then, slice_index, slice_index_or, if◌then◌else◌}
use Rattle.shen_graph.specs.declared.name.Name.{Name}
use Rattle.shen_graph.specs.declared.pin.Pinned.{Pinned}
use Rattle.shen_graph.specs.Graph.{Graph, Object, Reference, same_name}
use Rattle.shen_graph.specs.GraphText.{Row}

-- a row for each object; and for each thread, counted from 1, its 16 roots, how many objects it made and its 4 pin slots: place 0 of these is nobody's
pub record Plain : Type 0 where
  pub rows : List Row
  pub roots : List (List Reference)
  pub counts : List ℕ
  pub pins : List (List (Option Pinned))

abbrev pub threads_of : Plain → ℕ
threads_of plain = length plain.roots - 1

-- the object of a name: that of the first row with the name
abbrev pub object_in : List Row → Name → Option Object
object_in [] name = None
object_in (row ∷ rows) name = if same_name name row.name then Some (record { refs = row.refs; nums = row.nums }) else object_in rows name

abbrev pub root_in : List (List Reference) → ℕ → ℕ → Reference
root_in roots thread root = slice_index_or (slice_index_or roots thread []) root None

abbrev pub pin_in : List (List (Option Pinned)) → ℕ → ℕ → Option Pinned
pin_in pins thread slot = slice_index_or (slice_index_or pins thread []) slot None

unfoldable pub graph_of : Plain → Graph
graph_of plain = record { object = object_in plain.rows; root = root_in plain.roots; count = slice_index plain.counts; pin = pin_in plain.pins }

-- whether both are true, or both false
abbrev pub same_bool : Bool → Bool → Bool
same_bool true holds = holds
same_bool false holds = not holds

-- whether a pin slot holds the object at another place, or another object at the place
abbrev pub differs : Name → ℕ → Option Pinned → Bool
differs name place None = false
differs name place (Some held) = not (same_bool (same_name held.name name) (held.place == place))

-- where the row of the object stands that a root names
abbrev pub place_of : Plain → ℕ → ℕ → Option ℕ
place_of plain thread root = option_and_then (λ n. position (λ r. same_name n r.name) plain.rows) (root_in plain.roots thread root)
