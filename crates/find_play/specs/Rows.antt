-- Objects and their fields in the rows of a graph.
use Rattle.std.specs.Prelude.{ℕ, zero, suc, List, [], ◌∷◌, Option, Some, None, slice_get, if◌then◌else◌}
use Rattle.shen_graph.specs.declared.name.Name.{Name}
use Rattle.shen_graph.specs.Graph.{Reference, same_name}
use Rattle.shen_graph.specs.GraphText.{Row}

-- the row of an object
abbrev pub row_for : List Row → Name → Option Row
row_for [] name = None
row_for (row ∷ rest) name = if same_name row.name name then Some row else row_for rest name

abbrev pub reference_held_by : Option Row → ℕ → Option Reference
reference_held_by None field = None
reference_held_by (Some row) field = slice_get row.refs field

abbrev pub number_held_by : Option Row → ℕ → Option ℕ
number_held_by None index = None
number_held_by (Some row) index = slice_get row.nums index

-- a reference and a number of an object, if they are there
abbrev pub reference_held : List Row → Name → ℕ → Option Reference
reference_held rows name field = reference_held_by (row_for rows name) field

abbrev pub number_held : List Row → Name → ℕ → Option ℕ
number_held rows name index = number_held_by (row_for rows name) index

-- the reference in a field of the object that a reference names, if all of that is there
abbrev pub follow : List Row → ℕ → Option Reference → Option Reference
follow rows field (Some (Some name)) = reference_held rows name field
follow rows field _ = None

-- the reference to which so many objects lead, each by the same field, if they are there
abbrev pub along : List Row → ℕ → ℕ → Option Reference → Option Reference
along rows field zero reference = reference
along rows field (suc count) reference = along rows field count (follow rows field reference)
