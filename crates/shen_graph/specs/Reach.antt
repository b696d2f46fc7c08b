-- What roots and pin slots lead to.
use Rattle.std.specs.Prelude.{ℕ, ◌≡◌, ◌+◌, ◌<◌, ◌⊎◌, List, [], ◌∷◌, length, Some, Contains, slice_get, sum_by}
use Rattle.shen_graph.specs.declared.name.Name.{Name}
use Rattle.shen_graph.specs.declared.pin.Pinned.{Pinned}
use Rattle.shen_graph.specs.Graph.{Graph, Object, named}

-- a name that a root or a pin slot of any thread holds, or a field of the object of such a name, and so on
pub data IsReachable (graph : Graph) : Name → Type 0 where
  from_root : (thread root : ℕ) (name : Name) → graph.root thread root ≡ Some name → IsReachable graph name
  from_pin : (thread slot : ℕ) (held : Pinned) → graph.pin thread slot ≡ Some held → IsReachable graph held.name
  from_field : (name other_name : Name) (field : ℕ) → IsReachable graph name → slice_get (named graph (Some name)).refs field ≡ Some (Some other_name) → IsReachable graph other_name

-- the order of names: by thread, and then by count
abbrev pub IsBefore : Name → Name → Type 0
IsBefore name other_name = (name.thread < other_name.thread) ⊎ ((name.thread ≡ other_name.thread) × (name.count < other_name.count))

-- each name is before all that follow it
abbrev pub InOrder : List Name → Type 0
InOrder [] = Unit {0}
InOrder (name ∷ []) = Unit {0}
InOrder (first_name ∷ second_name ∷ later_names) = IsBefore first_name second_name × InOrder (second_name ∷ later_names)

-- the names that can be reached, each once, in their order
pub record IsReach (graph : Graph) (names : List Name) : Type 0 where
  pub in_order : InOrder names
  pub all : (name : Name) → IsReachable graph name → Contains names name
  pub only : (name : Name) → Contains names name → IsReachable graph name

-- how many words an object has: header, shape, name, and one for each field and each number
abbrev pub size : Object → ℕ
size object = 3 + length object.refs + length object.nums

-- the sum of the sizes of what can be reached
abbrev pub Live : Graph → ℕ → Type 0
Live graph words = (names : List Name) × IsReach graph names × (words ≡ sum_by (λ n. size (named graph (Some n))) names)
