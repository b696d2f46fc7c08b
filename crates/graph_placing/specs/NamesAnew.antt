-- The names of objects that are named anew: each keeps its thread, and the objects of a thread are counted from 1, in the order of the
-- names that they had.
use Rattle.std.specs.Prelude.{ℕ, ◌+◌, ◌==◌, ◌&&◌, Bool, nat_lt, List, [], ◌∷◌, map, Some, None, if◌then◌else◌}
use Rattle.shen_graph.specs.declared.name.Name.{Name}
use Rattle.shen_graph.specs.Graph.{Reference}
use Rattle.shen_graph.specs.GraphText.{Text, Row, names_of}

-- whether a name is of the same thread as another and comes before it
abbrev pub is_earlier : Name → Name → Bool
is_earlier name other_name = (other_name.thread == name.thread) && nat_lt other_name.count name.count

-- how many of some names are of the same thread and come before
abbrev pub earlier_names : List Name → Name → ℕ
earlier_names [] name = 0
earlier_names (other_name ∷ names) name = (if is_earlier name other_name then 1 else 0) + earlier_names names name

-- how many of some names are of a thread
abbrev pub names_by : List Name → ℕ → ℕ
names_by [] thread = 0
names_by (name ∷ names) thread = (if name.thread == thread then 1 else 0) + names_by names thread

-- the new name of one of some names
abbrev pub name_anew : List Name → Name → Name
name_anew names name = record { thread = name.thread; count = earlier_names names name + 1 }

-- a reference, a row and a text with other names

abbrev pub renamed : (Name → Name) → Reference → Reference
renamed f None = None
renamed f (Some name) = Some (f name)

abbrev pub row_renamed : (Name → Name) → Row → Row
row_renamed f row = record { name = f row.name; refs = map (renamed f) row.refs; nums = row.nums }

abbrev pub text_renamed : (Name → Name) → Text → Text
text_renamed f text = record text { rows = map (row_renamed f) text.rows; roots = map (map (renamed f)) text.roots; pins = map (map (renamed f)) text.pins }

-- the text whose objects are named anew
abbrev pub text_anew : Text → Text
text_anew text = text_renamed (name_anew (names_of text)) text
