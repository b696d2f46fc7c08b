-- References as memory holds them. A name with a number that no name of an object can have is held as a name that is nobody's.
use Rattle.std.specs.Prelude.{◌^◌, Bool, ◌&&◌, nat_lt, map, Some, None, if◌then◌else◌}
use Rattle.shen_graph.specs.declared.name.Name.{Name}
use Rattle.shen_graph.specs.Graph.{Reference}
use Rattle.shen_graph.specs.GraphText.{Row}

abbrev pub nameless : Name
nameless = record { thread = 4294967295; count = 4294967295 }

-- both numbers of a name fit 32 bits
abbrev pub fits : Name → Bool
fits name = nat_lt name.thread (2 ^ 32) && nat_lt name.count (2 ^ 32)

abbrev pub held_name : Name → Name
held_name name = if fits name then name else nameless

abbrev pub held : Reference → Reference
held None = None
held (Some name) = Some (held_name name)

abbrev pub held_row : Row → Row
held_row row = record { name = row.name; refs = map held row.refs; nums = row.nums }
