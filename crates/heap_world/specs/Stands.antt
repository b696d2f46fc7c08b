-- When the words of a heap stand for a graph, by the current copies of its objects.
use Rattle.std.specs.Prelude.{ℕ, ◌≡◌, ◌+◌, ◌^◌, ◌<◌, ◌≤◌, if◌then◌else◌, length, Option, Some, None}
use Rattle.heap_words.specs.Encoding.{is_forwarded, forwardee_in}
use Rattle.shen_graph.specs.declared.name.Name.{Name}
use Rattle.shen_graph.specs.declared.pin.Pinned.{Pinned}
use Rattle.shen_graph.specs.Graph.{Graph, Object}
use Rattle.shen_graph.specs.Reach.{size}
use Rattle.heap_world.specs.Objects.{Refers, IsObject}

-- the address of the current copy of what begins at an address, by its header
abbrev pub current_of : (heap : ℕ → ℕ) → ℕ → ℕ
current_of heap address = if is_forwarded (heap address) then forwardee_in (heap address) else address

-- a copy of an object, current or old, begins at the address, and the current copy is one of it too
pub record IsCopyAt (first end : ℕ) (heap : ℕ → ℕ) (at : ℕ → Option Name) (address : ℕ) (name : Name) : Type 0 where
  pub above : first ≤ address
  pub below : address < end
  pub current : at (current_of heap address) ≡ Some name

-- an object of the graph stands at the address, and all of it among the words from `first` to before `end`
pub record IsAt (first end : ℕ) (heap : ℕ → ℕ) (at : ℕ → Option Name) (graph : Graph) (address : ℕ) (name : Name) (o : Object) : Type 0 where
  pub object : graph.object name ≡ Some o
  pub words : IsObject heap at address (length o.refs) (length o.nums) name o
  pub short_count : name.count < 2 ^ 32
  pub above : first ≤ address
  pub below : address + size o ≤ end

-- A pin word stands for what its slot holds: 0 for nothing, and else it is the object's place, where its current copy is.
abbrev pub HoldsPin : (heap : ℕ → ℕ) (at : ℕ → Option Name) → ℕ → Option Pinned → Type 0
HoldsPin heap at word None = word ≡ 0
HoldsPin heap at word (Some pinned) = (word ≡ pinned.place) × (at word ≡ Some pinned.name) × (current_of heap word ≡ word)

-- The words of the addresses from `first` to before `end`, and the words of roots and pin slots, stand for the graph. For an address,
-- `at` gives the name of the object of which a copy begins there, if one does. Its current copy stands as the graph has it. No
-- object has two current copies, and no two of these share a word.
pub record Stands (first end : ℕ) (heap : ℕ → ℕ) (root pin : ℕ → ℕ → ℕ) (at : ℕ → Option Name) (graph : Graph) : Type 0 where
  pub each : (address : ℕ) (name : Name) → at address ≡ Some name → IsCopyAt first end heap at address name
  pub object : (address : ℕ) (name : Name) → at address ≡ Some name → (o : Object) × IsAt first end heap at graph (current_of heap address) name o
  pub once : (address other_address : ℕ) (name : Name) → at address ≡ Some name → at other_address ≡ Some name → current_of heap address ≡ current_of heap other_address
  pub apart : (address other_address : ℕ) (name other_name : Name) (object : Object) → at address ≡ Some name → at other_address ≡ Some other_name → graph.object name ≡ Some object → current_of heap address < current_of heap other_address
      → current_of heap address + size object ≤ current_of heap other_address
  pub roots : (thread index : ℕ) → Refers at (root thread index) (graph.root thread index)
  pub pins : (thread slot : ℕ) → HoldsPin heap at (pin thread slot) (graph.pin thread slot)
