-- The names that a search found.
use Rattle.std.specs.Prelude.{List, ◌∷◌, [], ◌++◌, fold, Some, None, if◌then◌else◌}
use Rattle.std.specs.List.{list_any}
use Rattle.shen_graph.specs.declared.name.Name.{Name}
use Rattle.shen_graph.specs.Graph.{Reference, same_name}

-- and the name that a reference holds, each once
abbrev pub with_name : List Name → Reference → List Name
with_name found None = found
with_name found (Some name) = if list_any (λ other_name. same_name other_name name) found then found else found ++ name ∷ []

-- and those that these references hold
abbrev pub with_names : List Name → List Reference → List Name
with_names found refs = fold with_name found refs
