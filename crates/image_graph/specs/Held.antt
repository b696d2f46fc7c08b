-- Which objects of a heap are held: those that root words lead to, by current copies.
use Rattle.std.specs.Prelude.{ℕ, true, ◌≡◌, ◌≢◌, ◌+◌, ◌<◌, Option, Some, None, List, [], zero, suc, slice_get}
use Rattle.heap_words.specs.declared.config.Config.{Config}
use Rattle.heap_words.specs.Encoding.{refs_in, object_words}
use Rattle.shen_graph.specs.declared.name.Name.{Name}
use Rattle.shen_graph.specs.declared.pin.Pinned.{Pinned}
use Rattle.shen_graph.specs.Graph.{Graph, Object}
use Rattle.heap_world.specs.Walk.{has, with_addresses}
use Rattle.heap_world.specs.World.{Plot, thing, name_at, IsPlotted, IsThing}

-- The addresses of the objects that some words lead to. `now` gives the address of an object's current copy.
pub data IsLedTo (now heap : ℕ → ℕ) (IsRoot : ℕ → Type 0) : ℕ → Type 0 where
  from_root : (word : ℕ) → IsRoot word → word ≢ 0 → IsLedTo now heap IsRoot (now word)
  from_field : (address i : ℕ) → IsLedTo now heap IsRoot address → i < refs_in (heap (address + 1)) → heap (address + 3 + i) ≢ 0 → IsLedTo now heap IsRoot (now (heap (address + 3 + i)))

-- a word is one of a list
abbrev pub IsAmong : List ℕ → ℕ → Type 0
IsAmong roots word = has roots word ≡ true

-- how many words each held object has, and 0 for each other address
pub record AreHeldKept (heap : ℕ → ℕ) (Held : ℕ → Type 0) (kept : ℕ → ℕ) : Type 0 where
  pub words : (address : ℕ) → Held address → kept address ≡ object_words (heap (address + 1))
  pub only : (address : ℕ) → 0 < kept address → Held address

-- the list with the fields of an object at its end, if there is one
abbrev pub with_fields : (ℕ → List ℕ) → List ℕ → Option ℕ → List ℕ
with_fields fields order None = order
with_fields fields order (Some address) = with_addresses order (fields address)

-- the addresses that are found in so many turns, each of which takes the next address of the list and adds its fields
unfoldable pub found_in : (fields : ℕ → List ℕ) (roots : List ℕ) → ℕ → List ℕ
found_in fields roots zero = with_addresses [] roots
found_in fields roots (suc index) = with_fields fields (found_in fields roots index) (slice_get (found_in fields roots index) index)

-- an object of a name is at an address, and is its current copy
abbrev pub IsCopy : Plot → ℕ → Name → Type 0
IsCopy block address name = (refs : ℕ) × (nums : ℕ) × (block address ≡ Some (thing name refs nums))

-- The words of a heap stand for a graph, where objects may have old copies: whatever stands for a name has its current
-- copy, each object that is held is one of the graph, and root words stand for the roots, which are all that the graph's objects are
-- reached from: it has no pins. Nothing is asked of objects that are not held.
pub record HoldsGraph (config : Config) (top heap : ℕ → ℕ) (block : Plot) (now : ℕ → ℕ) (IsRoot : ℕ → Type 0) (graph : Graph) : Type 0 where
  pub plotted : IsPlotted config top block
  pub current : (word : ℕ) (name : Name) → name_at (block word) ≡ Some name → IsCopy block (now word) name
  pub each : (address refs nums : ℕ) (name : Name) → IsLedTo now heap IsRoot address → block address ≡ Some (thing name refs nums)
      → (object : Object) × (graph.object name ≡ Some object) × IsThing heap block address refs nums name object
  pub once : (address other_address refs nums more_refs more_nums : ℕ) (name : Name) → IsLedTo now heap IsRoot address → IsLedTo now heap IsRoot other_address
      → block address ≡ Some (thing name refs nums) → block other_address ≡ Some (thing name more_refs more_nums) → address ≡ other_address
  pub root_named : (word : ℕ) → IsRoot word → word ≢ 0 → (thread : ℕ) × (index : ℕ) × (name : Name) × (graph.root thread index ≡ Some name) × (name_at (block word) ≡ Some name)
  pub root_held : (thread index : ℕ) (name : Name) → graph.root thread index ≡ Some name → (word : ℕ) × IsRoot word × (name_at (block word) ≡ Some name)
  pub pinless : (thread slot : ℕ) (held : Pinned) → graph.pin thread slot ≡ Some held → ⊥
